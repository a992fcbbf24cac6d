use Rattle.descriptions.proofs.TypeLaws.{give_types}
use Rattle.descriptions.proofs.types.facts_give_types.Goals as goal

pub returns : goal.returns
returns c = give_types
