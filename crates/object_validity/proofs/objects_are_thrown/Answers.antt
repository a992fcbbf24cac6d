use Rattle.object_validity.proofs.objects_are_thrown.Goals as goal
use Rattle.object_validity.proofs.PerformLaws.{throws_known}

pub returns : goal.returns
returns c = throws_known
