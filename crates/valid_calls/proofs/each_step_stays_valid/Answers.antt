use Rattle.valid_calls.proofs.each_step_stays_valid.Goals as goal
use Rattle.valid_calls.proofs.DispatchLaws.{steps_stay}

pub returns : goal.returns
returns c = λ p k ms g r. steps_stay p k ms g r
