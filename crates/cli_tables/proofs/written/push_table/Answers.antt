use Rattle.std.proofs.Common.{refl}
use Rattle.cli_tables.specs.Written.{row_bytes}
use Rattle.cli_tables.proofs.PieceLaws.{pieces_begun, pieces_pushed}
use Rattle.cli_tables.proofs.written.push_table.Goals as goal

pub loop-row-init : goal.loop-row-init
loop-row-init c = pieces_begun c.args.out.now.items (row_bytes c.args.sizes.now c.args.table c.args.cells.now)

pub loop-row-preserved : goal.loop-row-preserved
loop-row-preserved c =
    let f = row_bytes c.args.sizes.now c.args.table c.args.cells.now in
    pieces_pushed c.args.out.now.items c.loop-row.out.items c.push_row.new.out.items (row_bytes c.args.sizes.now c.args.table c.args.cells.now c.loop-row.row) (row_bytes c.args.sizes.now c.args.table c.args.cells.now) c.loop-row.row c.loop-row.invariant
    c.in_ok-push_row.ensures refl
