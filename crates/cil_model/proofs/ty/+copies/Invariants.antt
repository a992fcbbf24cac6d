use Rattle.std.proofs.Common.{◌≡◌, ◌++◌, drop}
use Rattle.cil_model.proofs.ty.+copies.Given as goal

abbrev pub invariant-copied_tys-loop-ty : goal.invariant-copied_tys-loop-ty
invariant-copied_tys-loop-ty l = l.copies ++ drop l.ty-index l.tys ≡ l.tys
