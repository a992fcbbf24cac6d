use Rattle.std.proofs.Common.{◌≡◌, sym, subst, arith, ℕ, suc, ◌+◌, ◌-◌}
use Rattle.set_program.proofs.NestingLaws.{Outer, outer_more, outer_all}
use Rattle.type_circles.proofs.around.outer_rows.Goals as goal

pub loop-k-2-preserved : goal.loop-k-2-preserved
loop-k-2-preserved c =
    let n : ℕ = c.count-nestings.result in
    let k : ℕ = c.loop-k-2.k in
    let here : (n - k) + suc k ≡ n + 1 = omega (arith, c.loop-k-2-test.true) in
    let next : suc k ≡ k + 1 = omega arith in
    subst (λ m. Outer c.count-count.result n m c.args.rows.now c.note_next.new.rows.items) next
    (subst (λ l. Outer c.count-count.result n (suc k) c.args.rows.now l) (sym c.note_next.ensures)
    (outer_more c.count-count.result n k c.args.rows.now c.loop-k-2.outer.items c.loop-k-2.invariant (n - k) here c.cell.result c.cell-in-loop-k-2.result c.cell.ensures c.cell-in-loop-k-2.ensures))

pub returns : goal.returns
returns c =
    let all : c.loop-k-2.k ≡ c.count-nestings.result = omega (arith, c.loop-k-2-test.false, c.loop-k-2.auto.k-end) in
    outer_all c.count-nestings.result c.args.rows.now c.loop-k-2.outer.items c.count-nestings.ensures
    (subst (λ m. Outer m c.count-nestings.result c.count-nestings.result c.args.rows.now c.loop-k-2.outer.items) c.count-count.ensures
    (subst (λ m. Outer c.count-count.result c.count-nestings.result m c.args.rows.now c.loop-k-2.outer.items) all c.loop-k-2.invariant))
