use Rattle.object_validity.proofs.exceptions_keep_references.Goals as goal
use Rattle.object_validity.proofs.MoveLaws.{exceptions_known}

pub returns : goal.returns
returns c = exceptions_known
