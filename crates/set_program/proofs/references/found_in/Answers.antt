use Rattle.std.proofs.Common.{◌-◌, ℕ, suc, length, arith}
use Rattle.set_rows.specs.Sets.{Assemblies}
use Rattle.set_program.specs.References.{found_in}
use Rattle.set_program.proofs.ForwardLaws.{found_done, found_next, found_over}
use Rattle.set_program.proofs.references.found_in.Goals as goal

pub returns-in-Done : goal.returns-in-Done
returns-in-Done c =
    let s : Assemblies = c.args.set.now in
    let n : ℕ = length s - suc c.loop-k._k in
    found_done s c.args.name.now (found_in s c.args.name.now c.args.a) n c.loop-k.at c.in_ok-id.field-0 c.in-Done.id c.in_ok-id.ensures c.in-Done.is
    (c.loop-k.invariant (suc n) (omega (arith, c.loop-k-test.true)))

pub loop-k-preserved : goal.loop-k-preserved
loop-k-preserved c = λ n e.
    let s : Assemblies = c.args.set.now in
    found_next s c.args.name.now (found_in s c.args.name.now c.args.a) n c.loop-k.at c.in_ok-id.field-0 c.in-Asks.next c.in_ok-id.ensures c.in-Asks.is
    (c.loop-k.invariant (suc n) (omega (arith, e)))

pub returns : goal.returns
returns c =
    let s : Assemblies = c.args.set.now in
    found_over s c.args.name.now (found_in s c.args.name.now c.args.a) c.loop-k.at (c.loop-k.invariant 0 (omega (arith, c.loop-k-test.false, c.loop-k.auto._k-end)))
