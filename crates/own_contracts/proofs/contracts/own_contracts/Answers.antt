use Rattle.std.proofs.Common.{◌≡◌, arith, length}
use Rattle.own_contracts.proofs.FoundLaws.{taken_at, none_broken}
use Rattle.own_contracts.proofs.contracts.own_contracts.Goals as goal

pub loop-m-preserved : goal.loop-m-preserved
loop-m-preserved c =
    taken_at c.args.program.now c.loop-m.m c.in_ok-number_of.field-0 c.loop-m.found c.loop-m.invariant c.method_contract-answer.result c.take.new.found c.in_ok-number_of.ensures c.in_ok-take.ensures
    c.method_contract-answer.ensures.right c.method_contract-answer.ensures.accepted c.method_contract-answer.ensures.refused

pub returns-in-None-clause-accepted : goal.returns-in-None-clause-accepted
returns-in-None-clause-accepted c =
    let all : c.loop-m.m ≡ length c.args.program.now.methods = omega (arith, c.loop-m-test.false, c.loop-m.auto.m-end, c.len-m-end.ensures) in
    none_broken c.args.program.now c.loop-m.m c.loop-m.found c.loop-m.invariant all c.in-None.is
