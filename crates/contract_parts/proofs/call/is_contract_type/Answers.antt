use Rattle.std.proofs.Common.{sym, ap}
use Rattle.std.specs.Prelude.{bytes_eq}
use Rattle.cil_model.specs.declared.program.TypeDesc.{TypeDesc}
use Rattle.cil_semantics.specs.Core.{contract_name}
use Rattle.cil_semantics.specs.Lookups.{contract_exception}
use Rattle.contract_parts.proofs.LookupLaws.{type_past}
use Rattle.contract_parts.proofs.call.is_contract_type.Goals as goal

pub returns-in-None : goal.returns-in-None
unfolding contract_exception
returns-in-None c = sym (ap (λ (t : TypeDesc). bytes_eq t.name contract_name) (type_past c.args.p.now c.args.k (sym c.in-None.ensures.value)))
