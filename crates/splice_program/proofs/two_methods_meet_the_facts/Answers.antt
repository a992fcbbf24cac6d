use Rattle.splice_program.proofs.two_methods_meet_the_facts.Goals as goal
use Rattle.splice_program.proofs.WholeLaws.{meets_facts}

pub returns : goal.returns
returns c = meets_facts
