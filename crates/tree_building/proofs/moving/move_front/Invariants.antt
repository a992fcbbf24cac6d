use Rattle.std.proofs.Common.{◌≡◌, ◌++◌, length, reverse}
use Rattle.tree_building.proofs.moving.move_front.Given as goal

abbrev pub invariant-loop-span : goal.invariant-loop-span
invariant-loop-span l = l.front ++ reverse l.back ≡ l.fn.front ++ reverse l.fn.back

abbrev pub decreases-loop-span : goal.decreases-loop-span
decreases-loop-span l = length l.back
