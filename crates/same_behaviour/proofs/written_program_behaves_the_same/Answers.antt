use Rattle.same_behaviour.proofs.WholeLaws.{same_whole}
use Rattle.same_behaviour.proofs.written_program_behaves_the_same.Goals as goal

pub returns : goal.returns
returns c = λ p0 p k ms g r x. same_whole p0 p k ms g r x
