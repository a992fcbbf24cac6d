use Rattle.seam_laws.proofs.old_values_and_results_meet_the_facts.Goals as goal
use Rattle.seam_laws.proofs.RecallLaws.{recall_seams}

pub returns : goal.returns
returns c = λ p k p' g n depths me plan m code. recall_seams p k p' g n depths me plan m code
