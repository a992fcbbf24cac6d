use Rattle.std.proofs.Common.{◌≡◌, ℕ, false, get_or}
use Rattle.std.specs.Prelude.{map, ◌||◌}
use Rattle.std.specs.List.{range_with_len}
use Rattle.type_circles.proofs.entangled.or_each.Given as goal

abbrev pub invariant-loop-k : goal.invariant-loop-k
invariant-loop-k l = l.joined.items ≡ map (λ (k : ℕ). get_or l.first k false || get_or l.second k false) (range_with_len 0 l.k)
