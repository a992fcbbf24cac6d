use Rattle.object_validity.proofs.each_step_keeps_references.Goals as goal
use Rattle.object_validity.proofs.StepLaws.{each_step_known}

pub returns : goal.returns
returns c = each_step_known
