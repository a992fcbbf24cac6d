use Rattle.std.proofs.Common.{◌<◌, ◌+◌, ◌^◌, get_or, arith}
use Rattle.cli_tables.proofs.GrowthLaws.{row_fits}
use Rattle.cli_tables.proofs.tables.Tables.rows_where.Goals as goal

pub overflow_add-place : goal.overflow_add-place
overflow_add-place c =
    let fits : get_or c.as_slice-found.result.now c.loop-place.place-index 0 + 1 < 2 ^ 32 =
    row_fits c.args.self.now c.args.table c.args.column c.args.value c.loop-place.place-index c.column.result.now c.in_ok-places.places c.as_slice-found.result.now
    c.column.ensures.shaped c.requires c.column.ensures.cells c.in_ok-places.ensures c.as_slice-found.ensures c.loop-place-test.true in
    omega (arith, fits)
