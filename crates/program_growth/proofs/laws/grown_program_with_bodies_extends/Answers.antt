use Rattle.program_growth.proofs.BodyLaws.{extends_with_bodies}
use Rattle.program_growth.proofs.laws.grown_program_with_bodies_extends.Goals as goal

pub returns : goal.returns
returns c = λ x x' xs grown access texts bodies orderly named numbered alike described placed code code' p q is is' ranked ranked_too. extends_with_bodies x x' xs grown access texts bodies orderly named numbered alike described placed code code' p q is is' ranked ranked_too
