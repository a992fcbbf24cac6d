use Rattle.std.proofs.Common.{◌≤◌, ◌<◌, ℕ, get_or}
use Rattle.region_tree.specs.declared.order.Extent.{Extent}
use Rattle.region_tree.proofs.order.take_within.Given as goal

abbrev pub invariant-loop-left : goal.invariant-loop-left
invariant-loop-left l = record {
  fewer : l.left ≤ l.top;
  begins : (k : ℕ) (d : Extent) → l.left ≤ k → k < l.top → l.from ≤ (get_or l.extents k d).from;
  ends : (k : ℕ) (d : Extent) → l.left ≤ k → k < l.top → (get_or l.extents k d).end ≤ l.to;
  high : (k : ℕ) (d : Extent) → l.left ≤ k → k < l.top → (get_or l.extents k d).height ≤ l.height;
}

abbrev pub decreases-loop-left : goal.decreases-loop-left
decreases-loop-left l = l.left
