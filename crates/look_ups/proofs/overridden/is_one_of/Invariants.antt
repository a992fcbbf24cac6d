use Rattle.std.proofs.Common.{◌≡◌, drop}
use Rattle.cil_semantics.specs.Types.{same_ty}
use Rattle.cil_semantics.specs.Words.{any}
use Rattle.look_ups.proofs.overridden.is_one_of.Given as goal

abbrev pub invariant-loop-other : goal.invariant-loop-other
invariant-loop-other l = any (same_ty l.ty) (drop l.other-index l.tys) ≡ any (same_ty l.ty) l.tys
