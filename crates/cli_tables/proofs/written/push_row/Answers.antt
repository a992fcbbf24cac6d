use Rattle.std.proofs.Common.{◌≡◌, ℕ, List, get_or, ◌∙◌, ap}
use Rattle.cli_tables.specs.Stream.{width_of, kind_of}
use Rattle.cil_base.specs.Bytes.{number_bytes}
use Rattle.cli_tables.specs.Written.{cell_bytes}
use Rattle.cli_tables.proofs.LayoutLaws.{width_read}
use Rattle.cli_tables.proofs.PieceLaws.{pieces_begun, pieces_pushed}
use Rattle.cli_tables.proofs.written.push_row.Goals as goal

pub loop-column-init : goal.loop-column-init
loop-column-init c = pieces_begun c.args.out.now.items (cell_bytes c.args.sizes.now c.args.table c.args.cells.now c.args.row)

pub loop-column-preserved : goal.loop-column-preserved
loop-column-preserved c =
    let i = c.loop-column.column in
    let t = c.args.table in
    let s = c.args.sizes.now in
    let width : c.width-width.result ≡ width_of s (kind_of t i) = width_read s t c.columns-kinds.result.now i c.width-width.result _ c.columns-kinds.ensures.columns c.loop-column-test.true c.width-width.ensures.value in
    pieces_pushed c.args.out.now.items c.loop-column.out.items c.push_number.new.out.items (number_bytes c.width-width.result (get_or c.column.result.now c.args.row 0)) (cell_bytes s t c.args.cells.now c.args.row) i c.loop-column.invariant
    c.in_ok-push_number.ensures
    (ap (λ (w : ℕ). number_bytes w (get_or c.column.result.now c.args.row 0)) width ∙ ap (λ (l : List ℕ). number_bytes (width_of s (kind_of t i)) (get_or l c.args.row 0)) c.column.ensures)
