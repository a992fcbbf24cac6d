use Rattle.object_validity.proofs.replies_keep_references.Goals as goal
use Rattle.object_validity.proofs.OutsideLaws.{asks_known, outside_known}

pub returns-clause-asking : goal.returns-clause-asking
returns-clause-asking c = asks_known

pub returns-clause-calling : goal.returns-clause-calling
returns-clause-calling c = outside_known
