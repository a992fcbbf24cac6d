use Rattle.growth_premises.proofs.AttributeLaws.{says_alike}
use Rattle.growth_premises.proofs.laws.grown_says_alike.Goals as goal

pub returns : goal.returns
returns c = λ x x' xs grown orderly kept has values. says_alike x x' xs grown orderly kept has values
