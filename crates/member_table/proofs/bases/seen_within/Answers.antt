use Rattle.std.proofs.Common.{◌≡◌, ◌∙◌, sym, arith, suc, ◌-◌, ℕ}
use Rattle.std.specs.Prelude.{Some, None}
use Rattle.member_table.specs.Environments.{environment_in, seen_within}
use Rattle.member_table.proofs.BaseLaws.{seen_here, seen_on, seen_over}
use Rattle.member_table.proofs.bases.seen_within.Goals as goal

pub returns-then-is_of : goal.returns-then-is_of
returns-then-is_of c =
    let m : ℕ = c.args.n - suc c.loop-i._i in
    seen_here (environment_in c.args.assemblies.now c.args.types.now) c.args.k m c.loop-i.here (seen_within (environment_in c.args.assemblies.now c.args.types.now) c.args.k c.args.n c.args.ty.now)
    (sym c.if-is_of.true ∙ c.is_of.ensures) (c.loop-i.invariant (suc m) (omega (arith, c.loop-i-test.true)))

pub returns-in-None : goal.returns-in-None
returns-in-None c =
    let m : ℕ = c.args.n - suc c.loop-i._i in
    seen_on (environment_in c.args.assemblies.now c.args.types.now) c.args.k m c.loop-i.here (seen_within (environment_in c.args.assemblies.now c.args.types.now) c.args.k c.args.n c.args.ty.now) None
    (sym c.if-is_of.false ∙ c.is_of.ensures) (sym c.in-None.is ∙ c.in_ok-base_of.ensures) (c.loop-i.invariant (suc m) (omega (arith, c.loop-i-test.true)))

pub loop-i-preserved : goal.loop-i-preserved
loop-i-preserved c = λ m e.
    seen_on (environment_in c.args.assemblies.now c.args.types.now) c.args.k m c.loop-i.here (seen_within (environment_in c.args.assemblies.now c.args.types.now) c.args.k c.args.n c.args.ty.now) (Some c.in-Some.base)
    (sym c.if-is_of.false ∙ c.is_of.ensures) (sym c.in-Some.is ∙ c.in_ok-base_of.ensures) (c.loop-i.invariant (suc m) (omega (arith, e)))

pub returns : goal.returns
returns c = seen_over (environment_in c.args.assemblies.now c.args.types.now) c.args.k c.loop-i.here (seen_within (environment_in c.args.assemblies.now c.args.types.now) c.args.k c.args.n c.args.ty.now) (c.loop-i.invariant 0 (omega (arith, c.loop-i-test.false, c.loop-i.auto._i-end)))
