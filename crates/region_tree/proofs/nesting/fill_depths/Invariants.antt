use Rattle.std.proofs.Common.{◌≡◌, ◌≤◌, drop, length}
use Rattle.region_tree.specs.Nesting.{depths_of}
use Rattle.region_tree.proofs.nesting.fill_depths.Given as goal

abbrev pub invariant-loop-left : goal.invariant-loop-left
invariant-loop-left l = record {
  size : length l.depths ≡ length l.regions;
  below : l.left ≤ length l.regions;
  filled : drop l.left l.depths ≡ depths_of (drop l.left l.regions);
}

abbrev pub decreases-loop-left : goal.decreases-loop-left
decreases-loop-left l = l.left
