use Rattle.requires_laws.proofs.core_exceptions_meet_the_facts.Goals as goal
use Rattle.requires_laws.proofs.MadeLaws.{made_seams}

pub returns : goal.returns
returns c = λ p k p' g n depths r me plan m gr e code many. made_seams p k p' g n depths r me plan m gr e code many
