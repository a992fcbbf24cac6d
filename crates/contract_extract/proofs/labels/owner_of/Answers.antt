use Rattle.std.proofs.Common.{sym, ap}
use Rattle.cil_model.specs.declared.program.MethodDesc.{MethodDesc}
use Rattle.cil_semantics.specs.Lookups.{no_method}
use Rattle.contract_parts.proofs.LookupLaws.{method_past}
use Rattle.contract_extract.proofs.labels.owner_of.Goals as goal

pub returns-in-None : goal.returns-in-None
unfolding no_method
returns-in-None c = sym (ap (λ (d : MethodDesc). d.owner) (method_past c.args.p.now c.args.m (sym c.in-None.ensures)))
