use Rattle.seam_laws.proofs.captures_meet_the_facts.Goals as goal
use Rattle.seam_laws.proofs.CaptureLaws.{capture_seams}

pub returns : goal.returns
returns c = λ p k p' g n depths r me plan m e code many small settings. capture_seams p k p' g n depths r me plan m e code many small settings
