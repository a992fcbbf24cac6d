use Rattle.std.proofs.Common.{◌≡◌, Bool, length}
use Rattle.std.specs.Prelude.{◌||◌}
use Rattle.cil_model.specs.declared.ty.Ty.{Ty}
use Rattle.cil_semantics.specs.Words.{any}
use Rattle.look_ups.proofs.subtype.add_types.Given as goal

abbrev pub invariant-loop-ty : goal.invariant-loop-ty
invariant-loop-ty l = (f : Ty → Bool) → (any f l.found || any f l.left) ≡ (any f l.fn.found || any f l.fn.tys)

abbrev pub decreases-loop-ty : goal.decreases-loop-ty
decreases-loop-ty l = length l.left
