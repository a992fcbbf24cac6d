use Rattle.simulation_checks.proofs.requires_make_alike.Goals as goal
use Rattle.simulation_checks.proofs.MakeLaws.{makes_alike, clause_done}

pub returns-clause-made : goal.returns-clause-made
returns-clause-made c = λ p k ms g r. λ plan gr j q x h ex b' fs fs' w ss o z ch. makes_alike p k ms g r plan gr j q x h ex b' fs fs' w ss o z ch

pub returns-clause-done : goal.returns-clause-done
returns-clause-done c = λ p k ms g r. λ plan gr j q x h ex b' fs fs' w ss o z ch. clause_done p k ms g r plan gr j q x h ex b' fs fs' w ss o z ch
