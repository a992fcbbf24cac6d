use Rattle.std.proofs.Common.{◌≡◌, drop}
use Rattle.cil_model.specs.declared.ty.Ty.{Ty}
use Rattle.cil_semantics.specs.Types.{same_ty}
use Rattle.cil_semantics.specs.Words.{any}
use Rattle.look_ups.proofs.subtype.has_same.Given as goal

abbrev pub invariant-loop-other : goal.invariant-loop-other
invariant-loop-other l = any (λ (t : Ty). same_ty t l.ty) (drop l.other-index l.tys) ≡ any (λ (t : Ty). same_ty t l.ty) l.tys
