use Rattle.std.proofs.Common.{sym}
use Rattle.il_body.proofs.SpellingLaws.{is_spelling}
use Rattle.il_body.proofs.instr.push_instr.Goals as goal

pub push_operand-requires-clause-says : goal.push_operand-requires-clause-says
push_operand-requires-clause-says c = (is_spelling c.args.i.now.op c.args.i.now.operand c.in-Some.o (sym c.in-Some.ensures)).takes
