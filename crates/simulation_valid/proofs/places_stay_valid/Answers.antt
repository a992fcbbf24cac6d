use Rattle.simulation_valid.proofs.places_stay_valid.Goals as goal
use Rattle.simulation_valid.proofs.StepValidLaws.{acts_fine, steps_valid}
use Rattle.simulation_valid.proofs.PerformValidLaws.{performs_valid}
use Rattle.simulation_valid.proofs.MoveValidLaws.{loads_valid, stores_valid, uses_static_valid}

pub returns-clause-loading : goal.returns-clause-loading
returns-clause-loading c = λ p k ms g r. loads_valid p k ms g r

pub returns-clause-storing : goal.returns-clause-storing
returns-clause-storing c = λ p k ms g r. stores_valid p k ms g r

pub returns-clause-statics : goal.returns-clause-statics
returns-clause-statics c = λ p k ms g r. uses_static_valid p k ms g r

pub returns-clause-acts : goal.returns-clause-acts
returns-clause-acts c = λ p k ms g r. performs_valid p k ms g r

pub returns-clause-stepping : goal.returns-clause-stepping
returns-clause-stepping c = λ p k ms g r. steps_valid p k ms g r

pub returns-clause-instructions : goal.returns-clause-instructions
returns-clause-instructions c = λ p k ms g r. acts_fine p k ms g r
