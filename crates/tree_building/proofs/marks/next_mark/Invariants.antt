use Rattle.std.proofs.Common.{◌<◌, ◌≤◌, ◌-◌, length}
use Rattle.tree_building.specs.Marks.{NoneWithin}
use Rattle.tree_building.proofs.marks.next_mark.Given as goal

abbrev pub invariant-loop-to : goal.invariant-loop-to
invariant-loop-to l = record {
  ahead : l.from < l.to;
  within : l.to ≤ length l.marks;
  unmarked : NoneWithin l.marks l.from l.to;
}

abbrev pub decreases-loop-to : goal.decreases-loop-to
decreases-loop-to l = length l.marks - l.to
