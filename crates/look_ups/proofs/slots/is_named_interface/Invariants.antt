use Rattle.std.proofs.Common.{◌≡◌, drop}
use Rattle.cil_model.specs.declared.program.TypeDesc.{TypeDesc}
use Rattle.cil_semantics.specs.Types.{same_ty}
use Rattle.cil_semantics.specs.Words.{any}
use Rattle.look_ups.proofs.slots.is_named_interface.Given as goal

abbrev pub invariant-loop-desc : goal.invariant-loop-desc
invariant-loop-desc l = any (λ (d : TypeDesc). any (same_ty l.ty) d.interfaces) (drop l.desc-index l.program.types) ≡ any (λ (d : TypeDesc). any (same_ty l.ty) d.interfaces) l.program.types
