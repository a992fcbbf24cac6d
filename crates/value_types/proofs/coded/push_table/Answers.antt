use Rattle.std.proofs.Common.{◌≡◌, ◌∙◌, sym, ap, arith, ◌+◌, ◌++◌, ℕ, suc}
use Rattle.std.specs.Prelude.{flat_map}
use Rattle.std.specs.List.{range_with_len}
use Rattle.std.proofs.lemmas.List.{append-nil}
use Rattle.value_types.specs.CodedValues.{row_values, table_values}
use Rattle.value_types.proofs.CodedLaws.{row_added}
use Rattle.value_types.proofs.coded.push_table.Goals as goal

pub loop-k-init : goal.loop-k-init
loop-k-init c = λ n e.
    let all : n ≡ c.count-count.result = omega (arith, e) in
    ap (λ (m : ℕ). c.args.out.now ++ flat_map (row_values c.args.rows.now c.args.table c.args.column) (range_with_len 1 m)) (all ∙ c.count-count.ensures)

pub loop-k-preserved : goal.loop-k-preserved
loop-k-preserved c = λ n e.
    row_added c.loop-k.out c.push_row.new.out (row_values c.args.rows.now c.args.table c.args.column (c.loop-k.k + 1))
    (flat_map (row_values c.args.rows.now c.args.table c.args.column) (range_with_len (c.loop-k.k + 1 + 1) n)) (c.args.out.now ++ table_values c.args.rows.now c.args.table c.args.column)
    c.in_ok-push_row.ensures (c.loop-k.invariant (suc n) (omega (arith, e)))

pub returns : goal.returns
returns c = sym (append-nil c.loop-k.out) ∙ c.loop-k.invariant 0 (omega (arith, c.loop-k-test.false, c.loop-k.auto.k-end))
