use Rattle.object_validity.proofs.returns_keep_references.Goals as goal
use Rattle.object_validity.proofs.ReturnLaws.{returning_known}

pub returns : goal.returns
returns c = returning_known
