use Rattle.type_facts.proofs.KnownLaws.{types_known}
use Rattle.type_facts.proofs.types.marks_give_types.Goals as goal

pub returns : goal.returns
returns c = types_known
