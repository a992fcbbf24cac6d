use Rattle.splice_rows.proofs.one_requires_meets_the_facts.Goals as goal
use Rattle.splice_rows.proofs.WholeLaws.{meets}

pub returns : goal.returns
returns c = meets
