use Rattle.seam_laws.proofs.quiet_helpers_meet_the_facts.Goals as goal
use Rattle.seam_laws.proofs.QuietFailLaws.{quiet_helpers_run}

pub returns : goal.returns
returns c = quiet_helpers_run
