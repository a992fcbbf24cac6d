use Rattle.std.proofs.Common.{◌∙◌, ap, ℕ, ◌+◌}
use Rattle.std.specs.Prelude.{Option, option_to_list}
use Rattle.set_types.specs.CodedTypes.{coded_of}
use Rattle.type_circles.specs.RowGraphs.{above_own, above_row}
use Rattle.type_circles.proofs.ListLaws.{row_push}
use Rattle.type_circles.proofs.above.above_rows.Goals as goal

pub loop-k-preserved : goal.loop-k-preserved
loop-k-preserved c =
    row_push (above_row c.args.types.now c.args.a c.args.rows.now (coded_of c.args.coded.now)) c.loop-k.k c.loop-k.lists c.push.new.self c.in_ok-above_row.field-0 c.in_ok-push.ensures.ok
    (c.in_ok-above_row.ensures ∙ ap (λ (o : Option ℕ). above_own (option_to_list o) c.args.rows.now (coded_of c.args.coded.now) (c.loop-k.k + 1)) c.row_number-own.ensures)
    c.loop-k.invariant
