use Rattle.object_validity.proofs.entries_begin_with_references.Goals as goal
use Rattle.object_validity.proofs.PerformLaws.{entries_known}

pub returns : goal.returns
returns c = entries_known
