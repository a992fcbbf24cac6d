use Rattle.std.proofs.Common.{◌≡◌, ◌∙◌, ap, subst, arith, ℕ, suc, ◌+◌, ◌-◌, ◌≤◌}
use Rattle.set_rows.specs.Sets.{Assembly}
use Rattle.set_rows.proofs.OwnerLaws.{Owned, owned_more, owned_all}
use Rattle.set_rows.proofs.owning.owners.Goals as goal

pub loop-k-2-preserved : goal.loop-k-2-preserved
loop-k-2-preserved c =
    let x : Assembly = c.args.rows.now in
    let n : ℕ = c.count-types.result in
    let k : ℕ = c.loop-k-2.k in
    let here : (n - k) + suc k ≡ n + 1 = omega (arith, c.loop-k-2-test.true) in
    let low : 1 ≤ n - k = omega (arith, c.loop-k-2-test.true) in
    let next : suc k ≡ k + 1 = omega arith in
    subst (λ m. Owned x c.args.column c.args.table n m c.fill.new.owners.items) next
    (owned_more x c.args.column c.args.table n k c.loop-k-2.owners.items c.fill.new.owners.items c.loop-k-2.invariant (n - k) here low c.saturating_sub-from.result c.end_place-to.result (c.saturating_sub-from.ensures ∙ ap (λ (m : ℕ). m - 1) c.cell.ensures) c.end_place-to.ensures c.fill.ensures)

pub returns : goal.returns
returns c =
    let x : Assembly = c.args.rows.now in
    let all : c.loop-k-2.k ≡ c.count-types.result = omega (arith, c.loop-k-2-test.false, c.loop-k-2.auto.k-end) in
    owned_all x c.args.column c.args.table c.loop-k-2.owners.items
    (subst (λ m. Owned x c.args.column c.args.table m m c.loop-k-2.owners.items) c.count-types.ensures
    (subst (λ m. Owned x c.args.column c.args.table c.count-types.result m c.loop-k-2.owners.items) all c.loop-k-2.invariant))
