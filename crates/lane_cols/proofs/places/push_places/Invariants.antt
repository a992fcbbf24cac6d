use Rattle.std.proofs.Common.{◌≡◌, ◌++◌, slice_range}
use Rattle.lane_cols.specs.Places.{places_from}
use Rattle.lane_cols.proofs.places.push_places.Given as goal

abbrev pub invariant-loop-i : goal.invariant-loop-i
invariant-loop-i l = l.out ≡ l.fn.out ++ places_from l.from l.v (slice_range l.col l.from l.i)
