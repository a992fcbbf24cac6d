use Rattle.requires_laws.proofs.report_answers_the_reply.Goals as goal
use Rattle.requires_laws.proofs.ReportLaws.{report_runs}

pub returns : goal.returns
returns c = report_runs
