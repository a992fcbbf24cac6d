use Rattle.std.proofs.Common.{◌≡◌, arith, length}
use Rattle.own_contracts.specs.Inherited.{InheritsAt}
use Rattle.own_contracts.proofs.BestLaws.{best_step, best_of_all}
use Rattle.own_contracts.proofs.inherited.first_heir.Goals as goal

pub loop-m-preserved : goal.loop-m-preserved
loop-m-preserved c =
    best_step (InheritsAt c.args.program.now c.args.contracts.now) c.loop-m.m c.in_ok-number_of.field-0 c.loop-m.first c.in_ok-heir.field-0 c.earlier_of-first.result c.loop-m.invariant c.in_ok-number_of.ensures c.in_ok-heir.ensures c.earlier_of-first.ensures

pub returns : goal.returns
returns c =
    let all : c.loop-m.m ≡ length c.args.program.now.methods = omega (arith, c.loop-m-test.false, c.loop-m.auto.m-end, c.len-m-end.ensures) in
    best_of_all (InheritsAt c.args.program.now c.args.contracts.now) c.loop-m.m (length c.args.program.now.methods) c.loop-m.first all c.loop-m.invariant
