use Rattle.simulation_valid.proofs.frames_stay_valid.Goals as goal
use Rattle.std.proofs.Common.{refl}
use Rattle.simulation_valid.proofs.ArriveValidLaws.{arrives}
use Rattle.simulation_valid.proofs.UnwindValidLaws.{unwinds}
use Rattle.simulation_valid.proofs.PushValidLaws.{pushes_valid}
use Rattle.simulation_valid.proofs.LeaveValidLaws.{leaves_valid, resumes_valid}

pub returns-clause-arriving : goal.returns-clause-arriving
returns-clause-arriving c = λ p k ms g r h at l hs fs w a. arrives p k ms g r (Rattle.cil_semantics.specs.Unwind.plan_at k p h.method) h at l hs fs w refl a

pub returns-clause-unwinding : goal.returns-clause-unwinding
returns-clause-unwinding c = λ p k ms g r. unwinds p k ms g r

pub returns-clause-pushing : goal.returns-clause-pushing
returns-clause-pushing c = λ p k ms g r. pushes_valid p k ms g r

pub returns-clause-leaving : goal.returns-clause-leaving
returns-clause-leaving c = λ p k ms g r. leaves_valid p k ms g r

pub returns-clause-resuming : goal.returns-clause-resuming
returns-clause-resuming c = λ p k ms g r. resumes_valid p k ms g r
