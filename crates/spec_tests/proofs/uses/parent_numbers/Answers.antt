use Rattle.std.proofs.Common.{◌≡◌, ◌∙◌, ap, arith, length, ℕ}
use Rattle.std.proofs.lemmas.List.FromFn.{length-map-range_with_len}
use Rattle.cil_base.specs.declared.tables.TheConstants.{METHOD_IMPL}
use Rattle.set_rows.specs.Sets.{cell}
use Rattle.type_table.proofs.RowLaws.{row_more}
use Rattle.spec_tests.specs.SpecTests.{parent_spec}
use Rattle.spec_tests.proofs.uses.parent_numbers.Goals as goal

pub loop-k-preserved : goal.loop-k-preserved
loop-k-preserved c =
    row_more (λ i. parent_spec c.args.rows.now (cell c.args.rows.now METHOD_IMPL i c.args.column)) c.loop-k.k c.loop-k.numbers.items c.push.new.self.items c.parent_spec.result
    c.in_ok-push.ensures.items (c.parent_spec.ensures ∙ ap (parent_spec c.args.rows.now) c.cell-coded.ensures) c.loop-k.invariant

pub returns-clause-short : goal.returns-clause-short
returns-clause-short c =
    let long : length c.loop-k.numbers.items ≡ c.loop-k.k = ap length c.loop-k.invariant ∙ length-map-range_with_len (λ i. parent_spec c.args.rows.now (cell c.args.rows.now METHOD_IMPL i c.args.column)) 1 c.loop-k.k in
    omega (arith, long, c.loop-k.auto.k-end, c.count-count.type_inv)
