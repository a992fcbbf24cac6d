use Rattle.step_answers.proofs.RunLaws.{runs_answered}
use Rattle.step_answers.proofs.whole_runs_are_answered.Goals as goal

pub returns : goal.returns
returns c = λ p k ms g r. runs_answered p k ms g r
