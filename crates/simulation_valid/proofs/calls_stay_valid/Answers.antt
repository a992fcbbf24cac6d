use Rattle.simulation_valid.proofs.calls_stay_valid.Goals as goal
use Rattle.simulation_valid.proofs.CallValidLaws.{calls_plainly_valid}
use Rattle.simulation_valid.proofs.EnterValidLaws.{enters_valid}
use Rattle.simulation_valid.proofs.ReturnValidLaws.{returns_valid, pieces_end}
use Rattle.simulation_valid.proofs.AskValidLaws.{asks_valid}

pub returns-clause-entering : goal.returns-clause-entering
returns-clause-entering c = λ p k ms g r. enters_valid p k ms g r

pub returns-clause-returning : goal.returns-clause-returning
returns-clause-returning c = λ p k ms g r. returns_valid p k ms g r

pub returns-clause-pieces : goal.returns-clause-pieces
returns-clause-pieces c = λ p k ms g r. pieces_end p k ms g r

pub returns-clause-asking : goal.returns-clause-asking
returns-clause-asking c = λ p k ms g r. asks_valid p k ms g r

pub returns-clause-calling : goal.returns-clause-calling
returns-clause-calling c = λ p k ms g r. calls_plainly_valid p k ms g r
