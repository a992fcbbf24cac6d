use Rattle.simulation.proofs.frames_go_alike.Goals as goal
use Rattle.simulation.proofs.ArriveLaws.{arrives_alike}
use Rattle.simulation.proofs.UnwindLaws.{unwinds}
use Rattle.simulation.proofs.PushLaws.{pushes}

pub returns-clause-arriving : goal.returns-clause-arriving
returns-clause-arriving c = λ p k ms g r. arrives_alike p k ms g r

pub returns-clause-unwinding : goal.returns-clause-unwinding
returns-clause-unwinding c = λ p k ms g r. unwinds p k ms g r

pub returns-clause-pushing : goal.returns-clause-pushing
returns-clause-pushing c = λ p k ms g r. pushes p k ms g r
