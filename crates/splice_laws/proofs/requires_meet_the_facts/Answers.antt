use Rattle.splice_laws.proofs.requires_meet_the_facts.Goals as goal
use Rattle.splice_laws.proofs.RequiresLaws.{requires_meet}

pub returns : goal.returns
returns c = record { groups = requires_meet }
