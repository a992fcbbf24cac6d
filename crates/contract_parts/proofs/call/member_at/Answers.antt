use Rattle.std.proofs.Common.{sym, ap}
use Rattle.cil_semantics.specs.Lookups.{no_method}
use Rattle.cil_semantics.specs.ContractCalls.{member_call}
use Rattle.contract_parts.proofs.LookupLaws.{method_past}
use Rattle.contract_parts.proofs.call.member_at.Goals as goal

pub returns-in-None : goal.returns-in-None
unfolding no_method
returns-in-None c = sym (ap member_call (method_past c.args.p.now c.args.m (sym c.in-None.ensures)))
