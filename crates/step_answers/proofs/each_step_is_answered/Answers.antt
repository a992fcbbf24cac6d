use Rattle.step_answers.proofs.each_step_is_answered.Goals as goal
use Rattle.step_answers.proofs.JoinLaws.{steps_answered}

pub returns : goal.returns
returns c = λ p k ms g r. steps_answered p k ms g r
