use Rattle.std.proofs.Common.{sym, ap}
use Rattle.std.specs.Prelude.{is_some}
use Rattle.cil_model.specs.declared.program.MethodDesc.{MethodDesc}
use Rattle.cil_semantics.specs.Lookups.{no_method}
use Rattle.contract_parts.proofs.LookupLaws.{method_past}
use Rattle.own_contracts.proofs.contracts.has_body.Goals as goal

pub returns-in-None : goal.returns-in-None
unfolding no_method
returns-in-None c = sym (ap (λ (d : MethodDesc). is_some d.body) (method_past c.args.program.now c.args.m (sym c.in-None.ensures)))
