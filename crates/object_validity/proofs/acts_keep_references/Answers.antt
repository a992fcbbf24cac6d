use Rattle.object_validity.proofs.acts_keep_references.Goals as goal
use Rattle.object_validity.proofs.ClassActLaws.{acts_known}

pub returns : goal.returns
returns c = acts_known
