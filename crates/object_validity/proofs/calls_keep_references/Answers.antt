use Rattle.object_validity.proofs.calls_keep_references.Goals as goal
use Rattle.object_validity.proofs.PlaceStepLaws.{placed_known}

pub returns : goal.returns
returns c = placed_known
