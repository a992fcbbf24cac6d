use Rattle.program_build.proofs.CutLaws.{accepted_cut}
use Rattle.program_build.proofs.program.cut_is_within.Goals as goal

pub returns : goal.returns
returns c = accepted_cut c.args.target.now c.tables-tables.result.now c.tables-tables.ensures.readable c.tables-tables.ensures.cells c.tables-tables.ensures.value
