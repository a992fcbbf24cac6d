use Rattle.std.proofs.Common.{◌≡◌, ◌≤◌, ◌-◌, length, take}
use Rattle.lane_cols.specs.Places.{places_from}
use Rattle.lane_cols.proofs.places.places_of.Given as goal

abbrev pub invariant-loop-at : goal.invariant-loop-at
invariant-loop-at l = record {
  within : l.at ≤ length l.col;
  found : l.out ≡ places_from 0 l.v (take l.at l.col);
}

abbrev pub decreases-loop-at : goal.decreases-loop-at
decreases-loop-at l = length l.col - l.at
