use Rattle.std.proofs.Common.{sym}
use Rattle.set_program.specs.Environment.{coded_in}
use Rattle.spec_tests.proofs.rows.is_unfit.Goals as goal

pub returns-in-None : goal.returns-in-None
returns-in-None c = sym (c.in-None.ensures (coded_in c.args.tables.now c.args.a) c.args.tys.now)
