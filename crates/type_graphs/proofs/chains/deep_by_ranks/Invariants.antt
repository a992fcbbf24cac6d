use Rattle.std.proofs.Common.{◌≡◌}
use Rattle.std.specs.Prelude.{map}
use Rattle.std.specs.List.{range_with_len}
use Rattle.set_names.specs.Cycles.{is_deep}
use Rattle.type_graphs.specs.Graphs.{next_of}
use Rattle.type_graphs.proofs.chains.deep_by_ranks.Given as goal

abbrev pub invariant-loop-k : goal.invariant-loop-k
invariant-loop-k l = l.deep.items ≡ map (is_deep (next_of l.graph) l.deepest) (range_with_len 0 l.k)
