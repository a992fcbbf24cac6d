use Rattle.splice_program.proofs.seams_meet_the_facts.Goals as goal
use Rattle.splice_program.proofs.MeetLaws.{seams_meet}

pub returns : goal.returns
returns c = seams_meet
