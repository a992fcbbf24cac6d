use Rattle.std.proofs.Common.{◌≡◌, ℕ}
use Rattle.std.specs.Prelude.{map}
use Rattle.std.specs.List.{range_with_len}
use Rattle.set_names.specs.Cycles.{any}
use Rattle.type_graphs.specs.Graphs.{next_of}
use Rattle.type_graphs.specs.Levels.{is_in}
use Rattle.type_graphs.proofs.chains.next_level.Given as goal

abbrev pub invariant-loop-k : goal.invariant-loop-k
invariant-loop-k l = l.next.items ≡ map (λ (k : ℕ). any (is_in l.level l.past) (next_of l.graph k)) (range_with_len 0 l.k)
