use Rattle.object_validity.proofs.steps_keep_references.Goals as goal
use Rattle.object_validity.proofs.PerformLaws.{performs_known}

pub returns : goal.returns
returns c = performs_known
