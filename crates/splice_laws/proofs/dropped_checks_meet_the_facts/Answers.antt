use Rattle.splice_laws.proofs.dropped_checks_meet_the_facts.Goals as goal
use Rattle.splice_laws.proofs.DropLaws.{drops}

pub returns : goal.returns
returns c = λ p k p' g n depths me plan m code. drops p k p' g n depths me plan m code
