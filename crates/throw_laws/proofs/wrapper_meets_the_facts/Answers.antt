use Rattle.throw_laws.proofs.wrapper_meets_the_facts.Goals as goal
use Rattle.throw_laws.proofs.WrapperLaws.{wrapper_seams}

pub returns : goal.returns
returns c = λ p k p' g n depths me plan m code. wrapper_seams p k p' g n depths me plan m code
