use Rattle.run_outside.proofs.PlainLaws.{plain_struct}
use Rattle.run_outside.proofs.plain.+plain.Goals as goal

pub is_plain-returns-in-Struct : goal.is_plain-returns-in-Struct
is_plain-returns-in-Struct t c = plain_struct c.args.world.now c.args.v.now c.in-Struct.parts c.are_plain.result c.in-Struct.is c.are_plain.ensures
