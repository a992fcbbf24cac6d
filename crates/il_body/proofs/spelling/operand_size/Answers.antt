use Rattle.il_body.proofs.OperandLaws.{switch_size}
use Rattle.il_body.proofs.spelling.operand_size.Goals as goal

pub returns-in-Targets-clause-size : goal.returns-in-Targets-clause-size
returns-in-Targets-clause-size c at = switch_size at c.len.result c.args.kind c.in-Targets.ks c.args.operand.now c.in-Targets.is c.len.ensures
