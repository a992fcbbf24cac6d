use Rattle.splice_laws.proofs.exit_meets_the_facts.Goals as goal
use Rattle.splice_laws.proofs.ExitLaws.{exit_seams}

pub returns : goal.returns
returns c = λ p k p' g n depths me plan m e. exit_seams p k p' g n depths me plan m e
