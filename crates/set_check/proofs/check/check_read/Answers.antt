use Rattle.std.proofs.Common.{◌≡◌}
use Rattle.cil_base.proofs.RefusalLaws.{IfRefused-weaker}
use Rattle.set_check.specs.Sets.{bytes_of}
use Rattle.set_check.proofs.SetLaws.{contract_refused, later_kept, rows_refused}
use Rattle.set_check.proofs.check.check_read.Goals as goal

pub returns-in-Err-clause-refused : goal.returns-in-Err-clause-refused
returns-in-Err-clause-refused c = IfRefused-weaker c.in-Err.fault _ _ (λ r x. rows_refused (bytes_of c.args.set.now) c.args.writes r x) c.in-Err.ensures.refused

pub returns-in-Some-clause-refused : goal.returns-in-Some-clause-refused
returns-in-Some-clause-refused c = contract_refused (bytes_of c.args.set.now) c.args.writes c.in-Some.refusal c.in-Ok.ensures.accepted c.in-Some.ensures

pub returns-in-None-clause-accepted : goal.returns-in-None-clause-accepted
returns-in-None-clause-accepted c = later_kept (bytes_of c.args.set.now) c.args.writes c.in-Ok.ensures.accepted c.in-None.ensures
