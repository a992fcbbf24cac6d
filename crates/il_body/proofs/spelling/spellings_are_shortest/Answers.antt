use Rattle.il_body.proofs.SpellingLaws.{are_shortest}
use Rattle.il_body.proofs.spelling.spellings_are_shortest.Goals as goal

pub returns : goal.returns
returns c = are_shortest
