use Rattle.splice_laws.proofs.helpers_meet_the_facts.Goals as goal
use Rattle.splice_laws.proofs.HelperLaws.{helpers_run}
use Rattle.splice_laws.proofs.ExceptionLaws.{makes_failure}

pub returns-clause-helpers : goal.returns-clause-helpers
returns-clause-helpers c = helpers_run

pub returns-clause-failures : goal.returns-clause-failures
returns-clause-failures c = makes_failure
