use Rattle.simulation_calls.proofs.clauses_go_alike.Goals as goal
use Rattle.simulation_calls.proofs.CheckLaws.{fails_so}
use Rattle.simulation_calls.proofs.ClauseLaws.{condition_ends}

pub returns-clause-failures : goal.returns-clause-failures
returns-clause-failures c = λ p k ms g r. fails_so p k ms g r

pub returns-clause-conditions : goal.returns-clause-conditions
returns-clause-conditions c = λ p k ms g r. condition_ends p k ms g r
