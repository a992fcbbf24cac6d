use Rattle.splice_laws.proofs.group_meets_the_facts.Goals as goal
use Rattle.splice_laws.proofs.GroupLaws.{seams}

pub returns : goal.returns
returns c = λ p k p' g n depths me plan m gr r e many small settings. seams p k p' g n depths me plan m gr r e.frame many e.door_code small settings
