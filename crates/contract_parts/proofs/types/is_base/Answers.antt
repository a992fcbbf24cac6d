use Rattle.std.proofs.Common.{◌≡◌, false, sym, ap, ◌∙◌}
use Rattle.cil_model.specs.declared.ty.Ty.{Ty, out-Ty}
use Rattle.cil_model.specs.declared.program.TypeDesc.{TypeDesc}
use Rattle.cil_semantics.specs.Lookups.{contract_exception}
use Rattle.cil_semantics.specs.Words.{maybe}
use Rattle.contract_parts.specs.Parts.{same_definition}
use Rattle.contract_parts.proofs.LookupLaws.{type_past}
use Rattle.contract_parts.proofs.types.is_base.Goals as goal

pub returns-in-None : goal.returns-in-None
unfolding contract_exception out-Ty denote.Hole.Carrier.out
returns-in-None c =
    c.is_outside.ensures
    ∙ sym (ap (λ (t : TypeDesc). maybe false (λ (base : Ty). same_definition (out-Ty base) (out-Ty c.args.owner.now)) t.base) (type_past c.args.p.now c.args.k (sym c.in-None.ensures.value)))
