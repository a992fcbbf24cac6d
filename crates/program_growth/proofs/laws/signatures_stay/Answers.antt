use Rattle.program_growth.proofs.SignatureLaws.{keeps_signatures}
use Rattle.program_growth.proofs.laws.signatures_stay.Goals as goal

pub returns : goal.returns
returns c = λ a b more. keeps_signatures a b more
