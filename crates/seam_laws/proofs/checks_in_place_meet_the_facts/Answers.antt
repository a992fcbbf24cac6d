use Rattle.seam_laws.proofs.checks_in_place_meet_the_facts.Goals as goal
use Rattle.seam_laws.proofs.InlineLaws.{checks_in_place}

pub returns : goal.returns
returns c = λ p k p' g n depths r me plan m e many. checks_in_place p k p' g n depths r me plan m e many
