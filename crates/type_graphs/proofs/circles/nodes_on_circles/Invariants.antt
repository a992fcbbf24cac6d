use Rattle.std.proofs.Common.{◌≡◌, ℕ, length}
use Rattle.std.specs.Prelude.{map}
use Rattle.std.specs.List.{range_with_len}
use Rattle.set_names.specs.Cycles.{reaches}
use Rattle.type_graphs.specs.Graphs.{next_of}
use Rattle.type_graphs.proofs.circles.nodes_on_circles.Given as goal

abbrev pub invariant-loop-k : goal.invariant-loop-k
invariant-loop-k l = l.circles.items ≡ map (λ (k : ℕ). reaches (next_of l.graph) (length l.graph) k k) (range_with_len 0 l.k)
