use Rattle.std.proofs.Common.{◌∙◌, arith}
use Rattle.cli_tables.proofs.BlankLaws.{blank_push, blank_done}
use Rattle.cli_tables.proofs.reading.blank_tables.Goals as goal

pub loop-table-preserved : goal.loop-table-preserved
loop-table-preserved c = c.in_ok-push.ensures ∙ blank_push c.loop-table.tables.items c.loop-table.table c.in_ok-blank.field-0 c.loop-table.invariant c.in_ok-blank.ensures

pub returns : goal.returns
returns c = blank_done c.loop-table.tables.items c.loop-table.table (omega arith) c.loop-table.invariant
