use Rattle.body_rules.proofs.CodeLaws.{code_told}
use Rattle.body_rules.proofs.code.code_fault.Goals as goal

pub returns-in-Ok-None : goal.returns-in-Ok-None
returns-in-Ok-None c =
    code_told c.args.program.now c.args.own.now c.args.place c.args.body.now c.in-Ok-None.field-0 c.control_fault.result c.in-Ok-None.field-0-is c.in-Ok-None.ensures c.control_fault.ensures
