use Rattle.std.proofs.Common.{◌≡◌, rules, true, false}
use Rattle.std.specs.Prelude.{IsSome, is_some}
use Rattle.cil_semantics.specs.Lookups.{method_of}
use Rattle.cil_semantics.specs.Unwind.{body_of}
use Rattle.own_contracts.specs.Calls.{has_call}
use Rattle.own_contracts.proofs.OnceLaws.{own_accepted, own_refused}
use Rattle.own_contracts.proofs.PlainOwnLaws.{plain_own, plain_accepted}
use Rattle.own_contracts.proofs.contracts.method_contract.Goals as goal

pub returns-clause-accepted : goal.returns-clause-accepted
returns-clause-accepted c = own_accepted c.args.program.now c.args.m c.requires.heights c.own_contract.result c.own_contract.ensures.right

pub returns-clause-refused : goal.returns-clause-refused
returns-clause-refused c =
    let some : IsSome (method_of c.args.program.now c.args.m).body = search (rules, c.has_body.ensures, c.if-not-has_body.false) in
    own_refused c.args.program.now c.args.m c.requires.heights c.own_contract.result some c.own_contract.ensures.wrong

pub returns-then-not-calls_contract-clause-right : goal.returns-then-not-calls_contract-clause-right
returns-then-not-calls_contract-clause-right c =
    let some : IsSome (method_of c.args.program.now c.args.m).body = search (rules, c.has_body.ensures, c.if-not-has_body.false) in
    let none : has_call c.args.program.now (body_of c.args.program.now c.args.m).instrs ≡ false = search (rules, c.calls_contract.ensures, c.if-not-calls_contract.true) in
    plain_own c.args.program.now c.args.m c.requires.heights some c.no_contract-then-not-calls_contract.result none c.no_contract-then-not-calls_contract.ensures

pub returns-then-not-calls_contract-clause-accepted : goal.returns-then-not-calls_contract-clause-accepted
returns-then-not-calls_contract-clause-accepted c =
    let some : IsSome (method_of c.args.program.now c.args.m).body = search (rules, c.has_body.ensures, c.if-not-has_body.false) in
    let none : has_call c.args.program.now (body_of c.args.program.now c.args.m).instrs ≡ false = search (rules, c.calls_contract.ensures, c.if-not-calls_contract.true) in
    plain_accepted c.args.program.now c.args.m c.requires.heights some c.no_contract-then-not-calls_contract.result none c.no_contract-then-not-calls_contract.ensures
