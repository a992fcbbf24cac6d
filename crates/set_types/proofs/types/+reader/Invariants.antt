use Rattle.std.proofs.Common.{◌≡◌, ◌+◌, ◌*◌, take}
use Rattle.std.specs.Prelude.{map}
use Rattle.set_types.specs.CodedTypes.{coded_of}
use Rattle.set_types.specs.SignatureTypes.{ty_within}
use Rattle.set_types.proofs.types.+reader.Given as goal

abbrev pub decreases-type_at : goal.decreases-type_at
decreases-type_at l = 4 * l.depth

abbrev pub decreases-types_at : goal.decreases-types_at
decreases-types_at l = 4 * l.depth + 1

abbrev pub decreases-coded_at : goal.decreases-coded_at
decreases-coded_at l = 4 * l.depth + 1

abbrev pub decreases-layer_at : goal.decreases-layer_at
decreases-layer_at l = 4 * l.depth + 2

abbrev pub invariant-types_at-loop-ty : goal.invariant-types_at-loop-ty
invariant-types_at-loop-ty l = l.read ≡ map (ty_within (coded_of l.coded) l.depth) (take l.ty-index l.tys)
