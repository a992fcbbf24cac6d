use Rattle.std.proofs.Common.{sym, ap}
use Rattle.cil_model.specs.declared.program.TypeDesc.{TypeDesc}
use Rattle.cil_semantics.specs.Lookups.{contract_exception}
use Rattle.contract_parts.proofs.LookupLaws.{type_past}
use Rattle.contract_extract.proofs.labels.type_name.Goals as goal

pub returns-in-None : goal.returns-in-None
unfolding contract_exception
returns-in-None c = sym (ap (λ (t : TypeDesc). t.name) (type_past c.args.p.now c.args.k (sym c.in-None.ensures.value)))
