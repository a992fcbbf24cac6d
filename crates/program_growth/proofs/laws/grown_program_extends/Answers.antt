use Rattle.program_growth.proofs.ExtendLaws.{extends}
use Rattle.program_growth.proofs.laws.grown_program_extends.Goals as goal

pub returns : goal.returns
returns c = λ x x' xs grown access texts orderly named numbered alike described placed ranked ranked_too. extends x x' xs grown access texts orderly named numbered alike described placed ranked ranked_too
