use Rattle.simulation_calls.proofs.returns_go_alike.Goals as goal
use Rattle.simulation_calls.proofs.RetLaws.{rets_bare}
use Rattle.simulation_calls.proofs.RetLaws.{rets_lifted}

pub returns-clause-once : goal.returns-clause-once
returns-clause-once c = λ p k ms g r. rets_bare p k ms g r

pub returns-clause-lifted : goal.returns-clause-lifted
returns-clause-lifted c = λ p k ms g r. rets_lifted p k ms g r
