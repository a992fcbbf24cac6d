use Rattle.set_program.proofs.NumberLaws.{keeps_types}
use Rattle.set_program.proofs.laws.appended_references_keep_types.Goals as goal

pub returns : goal.returns
returns c = λ x x' xs same indexes named. keeps_types x x' xs same indexes named
