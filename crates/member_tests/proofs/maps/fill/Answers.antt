use Rattle.std.proofs.Common.{◌≡◌, arith, subst}
use Rattle.set_rows.specs.Owners.{IsFilled}
use Rattle.set_rows.proofs.OwnerLaws.{filled_none}
use Rattle.member_tests.proofs.maps.fill.Goals as goal

pub returns-then-to-from : goal.returns-then-to-from
returns-then-to-from c = filled_none c.args.maps.now.items c.args.from c.args.to c.args.row c.if-to-from.true

pub returns : goal.returns
returns c =
    let e : c.loop-i.i ≡ c.args.to = omega (arith, c.loop-i-test.false, c.loop-i.auto.i-end (omega (arith, c.if-to-from.false))) in
    subst (λ m. IsFilled c.args.maps.now.items c.loop-i.maps.items c.args.from m c.args.row) e c.loop-i.invariant
