use Rattle.splice_program.proofs.two_methods_behave_the_same.Goals as goal
use Rattle.splice_program.proofs.WholeLaws.{same_two}

pub returns : goal.returns
returns c = same_two
