use Rattle.std.proofs.Common.{◌≡◌, ◌≤◌, ◌-◌, true, leb, length, take}
use Rattle.std.specs.List.{list_all}
use Rattle.lane_cols.proofs.bounds.all_at_most.Given as goal

abbrev pub invariant-loop-at : goal.invariant-loop-at
invariant-loop-at l = record {
  within : l.at ≤ length l.col;
  below : list_all (λ x. leb x l.bound) (take l.at l.col) ≡ true;
}

abbrev pub decreases-loop-at : goal.decreases-loop-at
decreases-loop-at l = length l.col - l.at
