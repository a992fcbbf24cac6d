use Rattle.grown_runs.proofs.RunLaws.{runs_stay}
use Rattle.grown_runs.proofs.input_runs_stay.Goals as goal

pub returns : goal.returns
returns c = λ p0 p k ms g r h ty me. runs_stay p0 p k ms g r h ty me
