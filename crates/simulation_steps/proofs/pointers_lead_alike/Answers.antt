use Rattle.simulation_steps.proofs.pointers_lead_alike.Goals as goal
use Rattle.simulation_steps.proofs.PointerLaws.{reads_alike, writes}

pub returns-clause-reading : goal.returns-clause-reading
returns-clause-reading c = λ p k ms g r. reads_alike p k ms g r

pub returns-clause-writing : goal.returns-clause-writing
returns-clause-writing c = λ p k ms g r. writes p k ms g r
