use Rattle.body_rules.proofs.CodeLaws.{flow_right, flow_refused}
use Rattle.body_rules.proofs.code.flow_fault.Goals as goal

pub returns-in-Ok : goal.returns-in-Ok
returns-in-Ok c = flow_right c.args.program.now c.args.own.now c.args.place c.args.body.now _ c.in-Ok.ensures.heights

pub returns-in-Err-Refused : goal.returns-in-Err-Refused
returns-in-Err-Refused c =
    flow_refused c.args.program.now c.args.own.now c.args.place c.args.body.now c.in-Err-Refused.field-0 c.in-Err-Refused.refusal c.in-Err-Refused.field-0-is c.in-Err-Refused.ensures.broken
