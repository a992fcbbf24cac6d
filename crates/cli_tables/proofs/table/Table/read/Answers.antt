use Rattle.std.proofs.Common.{◌≡◌, ◌+◌, ◌*◌, ◌<◌, ◌≤◌, length, ◌∙◌, arith}
use Rattle.cli_tables.specs.Schema.{columns_of}
use Rattle.cli_tables.specs.Stream.{width_of, kind_of, offset_of, row_width}
use Rattle.cli_tables.proofs.LayoutLaws.{cell_within, width_read, in_columns, offset_more, column_push}
use Rattle.cli_tables.proofs.table.Table.read.Goals as goal

pub read_column-requires-clause-within : goal.read_column-requires-clause-within
read_column-requires-clause-within c k lt =
    let i = c.loop-column.column-index in
    let t = c.args.table in
    let s = c.args.sizes.now in
    let ks = c.columns-column-items.result.now in
    let same = c.columns-column-items.ensures.columns in
    let below : i < length (columns_of t) = in_columns t ks i same c.loop-column-test.true in
    let width : c.width-width.result ≡ width_of s (kind_of t i) = width_read s t ks i c.width-width.result _ same c.loop-column-test.true c.width-width.ensures.value in
    let h : (c.args.start + offset_of s t i) + k * row_width s t + width_of s (kind_of t i) ≤ length c.args.bytes.now = cell_within s t i c.args.start c.args.rows k (length c.args.bytes.now) below c.requires.within lt in
    rw (c.loop-column.invariant.place, c.row_width-stride.ensures.width, width) h

pub loop-column-preserved : goal.loop-column-preserved
loop-column-preserved c =
    let i = c.loop-column.column-index in
    let t = c.args.table in
    let s = c.args.sizes.now in
    let ks = c.columns-column-items.result.now in
    let same = c.columns-column-items.ensures.columns in
    let below : i < length (columns_of t) = in_columns t ks i same c.loop-column-test.true in
    let width : c.width-width.result ≡ width_of s (kind_of t i) = width_read s t ks i c.width-width.result _ same c.loop-column-test.true c.width-width.ensures.value in
    record {
      read = c.in_ok-push.ensures.items ∙ column_push c.args.bytes.now s c.args.start t c.args.rows i c.loop-column.at c.row_width-stride.result c.width-width.result c.loop-column.read.items c.in_ok-read_column.field-0 c.loop-column.invariant.read c.in_ok-read_column.ensures c.loop-column.invariant.place c.row_width-stride.ensures.width width;
      place = omega (arith, offset_more s t i below, width, c.loop-column.invariant.place, c.from.ensures);
      small = omega arith;
    }
