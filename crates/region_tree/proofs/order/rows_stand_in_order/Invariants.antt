use Rattle.std.proofs.Common.{◌≡◌, ◌≤◌, length}
use Rattle.region_tree.specs.Extents.{StandSoFar}
use Rattle.region_tree.proofs.order.rows_stand_in_order.Given as goal

abbrev pub invariant-loop-k : goal.invariant-loop-k
invariant-loop-k l = record {
  few : l.top ≤ l.k;
  size : length l.extents ≡ length l.regions;
  stand : StandSoFar l.regions l.k l.extents l.top;
}
