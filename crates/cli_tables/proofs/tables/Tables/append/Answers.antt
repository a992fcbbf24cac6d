use Rattle.cli_tables.proofs.WidthLaws.{still_fits}
use Rattle.cli_tables.proofs.tables.Tables.append.Goals as goal

pub returns-in-Ok-clause-writable : goal.returns-in-Ok-clause-writable
returns-in-Ok-clause-writable c old new grows fit row_fit =
    still_fits old new c.args.self.now c.push.new.self c.args.table c.args.cells.now c.rows-rows.ensures.shaped c.in-Ok.ensures.ok grows fit row_fit
