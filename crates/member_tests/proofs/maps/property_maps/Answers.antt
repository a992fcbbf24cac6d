use Rattle.std.proofs.Common.{◌≡◌, ◌∙◌, ap, subst, arith, ℕ, suc, ◌+◌, ◌-◌, ◌≤◌}
use Rattle.set_rows.specs.Sets.{Assembly}
use Rattle.member_tests.proofs.MapLaws.{Mapped, mapped_none, mapped_more, mapped_all}
use Rattle.member_tests.proofs.maps.property_maps.Goals as goal

pub loop-k-init : goal.loop-k-init
loop-k-init c = mapped_none c.args.rows.now c.count-owners.result c.count.result c.in_ok-maps.maps.items c.in_ok-maps.ensures c.count.ensures

pub loop-k-preserved : goal.loop-k-preserved
loop-k-preserved c =
    let x : Assembly = c.args.rows.now in
    let n : ℕ = c.count-owners.result in
    let k : ℕ = c.loop-k.k in
    let here : (n - k) + suc k ≡ n + 1 = omega (arith, c.loop-k-test.true) in
    let low : 1 ≤ n - k = omega (arith, c.loop-k-test.true) in
    let next : suc k ≡ k + 1 = omega arith in
    subst (λ m. Mapped x n m c.fill.new.maps.items) next
    (mapped_more x n k c.loop-k.maps.items c.fill.new.maps.items c.loop-k.invariant (n - k) here low c.saturating_sub-from.result c.end_place-to.result (c.saturating_sub-from.ensures ∙ ap (λ (m : ℕ). m - 1) c.cell.ensures) c.end_place-to.ensures c.fill.ensures)

pub returns : goal.returns
returns c =
    let x : Assembly = c.args.rows.now in
    let all : c.loop-k.k ≡ c.count-owners.result = omega (arith, c.loop-k-test.false, c.loop-k.auto.k-end) in
    mapped_all x c.loop-k.maps.items
    (subst (λ m. Mapped x m m c.loop-k.maps.items) c.count-owners.ensures
    (subst (λ m. Mapped x c.count-owners.result m c.loop-k.maps.items) all c.loop-k.invariant))
