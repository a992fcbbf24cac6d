use Rattle.std.proofs.Common.{◌≡◌, ◌+◌, ◌*◌, take}
use Rattle.std.specs.Prelude.{map}
use Rattle.cil_semantics.specs.Places.{default_within}
use Rattle.run_values.proofs.defaults.+defaults.Given as goal

abbrev pub decreases-value_within : goal.decreases-value_within
decreases-value_within l = 4 * l.depth

abbrev pub decreases-defaults_within : goal.decreases-defaults_within
decreases-defaults_within l = 4 * l.depth + 1

abbrev pub decreases-struct_within : goal.decreases-struct_within
decreases-struct_within l = 4 * l.depth + 2

abbrev pub decreases-kind_within : goal.decreases-kind_within
decreases-kind_within l = 4 * l.depth + 3

abbrev pub invariant-defaults_within-loop-ty : goal.invariant-defaults_within-loop-ty
invariant-defaults_within-loop-ty l = l.values ≡ map (default_within l.depth l.program) (take l.ty-index l.tys)
