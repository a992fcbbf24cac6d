use Rattle.simulation_valid.proofs.clauses_stay_valid.Goals as goal
use Rattle.simulation_valid.proofs.ClauseValidLaws.{clauses_end_valid, captures_valid, inline_checks_valid}

pub returns-clause-ends : goal.returns-clause-ends
returns-clause-ends c = λ p k ms g r. clauses_end_valid p k ms g r

pub returns-clause-captures : goal.returns-clause-captures
returns-clause-captures c = λ p k ms g r. captures_valid p k ms g r

pub returns-clause-checks : goal.returns-clause-checks
returns-clause-checks c = λ p k ms g r. inline_checks_valid p k ms g r
