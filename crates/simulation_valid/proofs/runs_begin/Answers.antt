use Rattle.simulation_valid.proofs.runs_begin.Goals as goal
use Rattle.simulation_valid.proofs.StartLaws.{starts_alike, starts_valid}

pub returns-clause-alike : goal.returns-clause-alike
returns-clause-alike c = λ p k ms g r. starts_alike p k ms g r

pub returns-clause-valid : goal.returns-clause-valid
returns-clause-valid c = λ p k ms g r. starts_valid p k ms g r
