use Rattle.std.proofs.Common.{◌≡◌, drop}
use Rattle.std.specs.Prelude.{find}
use Rattle.cil_model.specs.declared.ty.Ty.{Ty}
use Rattle.cil_semantics.specs.Types.{same_ty}
use Rattle.cil_semantics.specs.Words.{any}
use Rattle.cil_semantics.specs.Lookups.{interfaces_of}
use Rattle.look_ups.proofs.slots.naming_among.Given as goal

abbrev pub invariant-loop-ty : goal.invariant-loop-ty
invariant-loop-ty l = find (λ (u : Ty). any (same_ty l.owner) (interfaces_of l.program u)) (drop l.ty-index l.links) ≡ find (λ (u : Ty). any (same_ty l.owner) (interfaces_of l.program u)) l.links
