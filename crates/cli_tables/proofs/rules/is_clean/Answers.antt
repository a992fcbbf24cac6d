use Rattle.std.proofs.Common.{◌<◌, length, below_more}
use Rattle.cli_tables.specs.Schema.{columns_of}
use Rattle.cli_tables.proofs.LayoutLaws.{in_columns}
use Rattle.cli_tables.proofs.RuleLaws.{clean_read}
use Rattle.cli_tables.proofs.rules.is_clean.Goals as goal

pub loop-c-preserved : goal.loop-c-preserved
loop-c-preserved c =
    let ks = c.columns-columns.result.now in
    let i = c.loop-c.c in
    let below : i < length (columns_of c.args.table) = in_columns c.args.table ks i c.columns-columns.ensures.columns c.loop-c-test.true in
    below_more _ _ c.loop-c.invariant
    (clean_read c.args.heaps.now.bytes c.args.sizes.now c.args.table c.args.rows.now c.args.count i ks _ c.column.result.now c.columns-columns.ensures.columns c.loop-c-test.true c.column.ensures (c.requires i below)
    (c.is_clean_column.ensures c.if-not-is_clean_column.false))
