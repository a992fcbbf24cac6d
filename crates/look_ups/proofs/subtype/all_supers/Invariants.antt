use Rattle.std.proofs.Common.{◌≡◌, Bool, take}
use Rattle.cil_model.specs.declared.ty.Ty.{Ty}
use Rattle.cil_semantics.specs.Words.{any}
use Rattle.look_ups.specs.Supers.{supers_of}
use Rattle.look_ups.proofs.subtype.all_supers.Given as goal

abbrev pub invariant-loop-ty : goal.invariant-loop-ty
invariant-loop-ty l = (f : Ty → Bool) → any f l.found ≡ any (λ (t : Ty). any f (supers_of l.program t)) (take l.ty-index l.tys)
