use Rattle.std.proofs.Common.{◌≡◌, ◌∙◌, ap, arith, length}
use Rattle.std.proofs.lemmas.List.FromFn.{length-map-range_with_len}
use Rattle.set_rows.specs.Sets.{cell}
use Rattle.row_descriptions.proofs.RowListLaws.{one_more}
use Rattle.row_descriptions.proofs.row_lists.column.Goals as goal

pub loop-k-preserved : goal.loop-k-preserved
loop-k-preserved c =
    one_more (λ row. cell c.args.rows.now c.args.table row c.args.column) c.loop-k.k c.loop-k.numbers.items c.push.new.self.items c.cell.result c.in_ok-push.ensures.items c.cell.ensures c.loop-k.invariant

pub returns-clause-short : goal.returns-clause-short
returns-clause-short c =
    let long : length c.loop-k.numbers.items ≡ c.loop-k.k = ap length c.loop-k.invariant ∙ length-map-range_with_len (λ row. cell c.args.rows.now c.args.table row c.args.column) 1 c.loop-k.k in
    omega (arith, long, c.loop-k.auto.k-end, c.count-count.type_inv)
