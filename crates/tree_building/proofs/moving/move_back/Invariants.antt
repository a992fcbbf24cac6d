use Rattle.std.proofs.Common.{◌≡◌, ◌≤◌, ◌++◌, length, reverse}
use Rattle.tree_building.specs.Spans.{LastIs}
use Rattle.tree_building.proofs.moving.move_back.Given as goal

abbrev pub invariant-loop-span : goal.invariant-loop-span
invariant-loop-span l = record {
  all : l.front ++ reverse l.back ≡ l.fn.front ++ reverse l.fn.back;
  back : LastIs (λ s. l.place ≤ s.from) l.fn.back → LastIs (λ s. l.place ≤ s.from) l.back;
}

abbrev pub decreases-loop-span : goal.decreases-loop-span
decreases-loop-span l = length l.front
