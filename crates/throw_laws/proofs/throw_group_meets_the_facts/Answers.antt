use Rattle.throw_laws.proofs.throw_group_meets_the_facts.Goals as goal
use Rattle.throw_laws.proofs.ThrowGroupLaws.{throw_seams}

pub returns : goal.returns
returns c = λ p k p' g n depths r me plan m e code many few small settings. throw_seams p k p' g n depths r me plan m e code many few small settings
