use Rattle.descriptions.proofs.MeaningLaws.{give_tokens}
use Rattle.descriptions.proofs.tokens.facts_give_tokens.Goals as goal

pub returns : goal.returns
returns c = give_tokens
