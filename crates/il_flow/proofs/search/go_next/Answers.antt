use Rattle.il_flow.proofs.SearchLaws.{stopped}
use Rattle.il_flow.proofs.search.go_next.Goals as goal

pub returns-in_default-clause-fault : goal.returns-in_default-clause-fault
returns-in_default-clause-fault c =
    stopped c.args.body.now c.args.effect c.args.marks.now c.args.at c.args.height c.args.i.now c.in_default.ensures
