use Rattle.std.proofs.Common.{◌≡◌, ◌+◌, ◌*◌, drop}
use Rattle.cil_semantics.specs.Outside.{all_fit, fits_within}
use Rattle.run_outside.proofs.fitting.+fits.Given as goal

abbrev pub decreases-fits_within : goal.decreases-fits_within
decreases-fits_within l = 4 * l.depth

abbrev pub decreases-all_fit : goal.decreases-all_fit
decreases-all_fit l = 4 * l.depth + 1

abbrev pub decreases-fields_fit : goal.decreases-fields_fit
decreases-fields_fit l = 4 * l.depth + 2

abbrev pub decreases-fits_kind : goal.decreases-fits_kind
decreases-fits_kind l = 4 * l.depth + 3

abbrev pub invariant-all_fit-loop-k : goal.invariant-all_fit-loop-k
invariant-all_fit-loop-k l =
    all_fit (fits_within l.depth l.program l.world) (drop l.k l.tys) (drop l.k l.values)
    ≡ all_fit (fits_within l.depth l.program l.world) l.tys l.values
