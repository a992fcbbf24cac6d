use Rattle.std.proofs.Common.{◌∙◌}
use Rattle.cli_tables.proofs.LayoutLaws.{strided_push}
use Rattle.cli_tables.proofs.table.read_column.Goals as goal

pub loop-row-preserved : goal.loop-row-preserved
loop-row-preserved c =
    c.in_ok-push.ensures.items ∙ strided_push c.args.bytes.now c.args.start c.args.stride c.args.width c.loop-row.row c.loop-row.cells.items c.number.result c.loop-row.invariant c.number.ensures
