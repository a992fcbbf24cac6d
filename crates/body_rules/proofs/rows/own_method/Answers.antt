use Rattle.body_rules.proofs.NumberLaws.{row_found, method_there, method_is}
use Rattle.body_rules.proofs.rows.own_method.Goals as goal

pub unreachable-requires : goal.unreachable-requires
unreachable-requires c =
    method_there c.args.tables.now c.numbers.result.now c.numbers.ensures c.args.a c.args.row c.args.program.now c.in-Some.number c.requires.program c.in-Some.ensures c.in-None-get.ensures

pub unreachable-requires-in-None : goal.unreachable-requires-in-None
unreachable-requires-in-None c =
    row_found c.args.tables.now c.numbers.result.now c.numbers.ensures c.args.a c.args.row c.requires.there c.requires.low c.requires.high c.in-None.ensures

pub returns : goal.returns
returns c =
    method_is c.args.tables.now c.numbers.result.now c.numbers.ensures c.args.a c.args.row c.args.program.now c.in-Some.number c.requires.program c.in-Some.ensures c.in-Some-get.own.now c.in-Some-get.ensures
