use Rattle.program_growth.proofs.ProgramLaws.{keeps_program}
use Rattle.program_growth.proofs.laws.grown_keeps_program.Goals as goal

pub returns : goal.returns
returns c = λ x x' xs grown access texts orderly named numbered alike described placed. keeps_program x x' xs grown access texts orderly named numbered alike described placed
