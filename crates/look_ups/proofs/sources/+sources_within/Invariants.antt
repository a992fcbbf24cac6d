use Rattle.std.proofs.Common.{◌≡◌, ◌-◌, ◌++◌, [], take}
use Rattle.std.specs.Prelude.{flat_map}
use Rattle.look_ups.specs.Sources.{once, sources_within, by_row, by_name}
use Rattle.look_ups.proofs.sources.+sources_within.Given as goal

abbrev pub invariant-loop-slot : goal.invariant-loop-slot
invariant-loop-slot l = l.found ≡ once [] (flat_map (sources_within (l.steps - 1) l.program) (take l.slot-index (by_row l.program (l.ty, l.method) ++ by_name l.program (l.ty, l.method))))

abbrev pub decreases-sources_within : goal.decreases-sources_within
decreases-sources_within l = l.steps
