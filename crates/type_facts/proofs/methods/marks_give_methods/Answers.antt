use Rattle.type_facts.proofs.KnownLaws.{methods_known}
use Rattle.type_facts.proofs.methods.marks_give_methods.Goals as goal

pub returns : goal.returns
returns c = methods_known
