use Rattle.std.proofs.Common.{◌≡◌, ◌∙◌, sym, arith, ◌<◌}
use Rattle.set_rows.specs.Sets.{count_in}
use Rattle.set_list.proofs.UnreadLaws.{first_row, none_more, none_of_rows}
use Rattle.set_list.proofs.unread.first_in_table.Goals as goal

pub returns-then-is_unread_row : goal.returns-then-is_unread_row
returns-then-is_unread_row c =
    let l : c.loop-k.k < count_in c.args.rows.now c.args.table = omega (arith, c.loop-k-test.true, c.loop-k.auto.k-end, c.count-k-end.ensures) in
    first_row c.args.rows.now c.args.table c.loop-k.k c.refusal_in.result l c.loop-k.invariant (sym c.is_unread_row.ensures ∙ c.if-is_unread_row.true) c.refusal_in.ensures

pub loop-k-preserved : goal.loop-k-preserved
loop-k-preserved c = none_more c.args.rows.now c.args.table c.loop-k.k c.loop-k.invariant (sym c.is_unread_row.ensures ∙ c.if-is_unread_row.false)

pub returns : goal.returns
returns c =
    let all : c.loop-k.k ≡ count_in c.args.rows.now c.args.table = omega (arith, c.loop-k-test.false, c.loop-k.auto.k-end, c.count-k-end.ensures) in
    none_of_rows c.args.rows.now c.args.table c.loop-k.k all c.loop-k.invariant
