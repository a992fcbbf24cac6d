use Rattle.simulation_steps.proofs.steps_go_alike.Goals as goal
use Rattle.simulation_steps.proofs.StepLaws.{plain_step_answers}
use Rattle.simulation_steps.proofs.DelegateLaws.{enters_delegate}
use Rattle.simulation_steps.proofs.OutsideLaws.{asks}
use Rattle.simulation_steps.proofs.EnterLaws.{enters}
use Rattle.simulation_steps.proofs.ReturnLaws.{returns_down}

pub returns-clause-stepping : goal.returns-clause-stepping
returns-clause-stepping c = λ p k ms g r. plain_step_answers p k ms g r

pub returns-clause-entering : goal.returns-clause-entering
returns-clause-entering c = λ p k ms g r. enters p k ms g r

pub returns-clause-returning : goal.returns-clause-returning
returns-clause-returning c = λ p k ms g r. returns_down p k ms g r

pub returns-clause-asking : goal.returns-clause-asking
returns-clause-asking c = λ p k ms g r. asks p k ms g r

pub returns-clause-delegates : goal.returns-clause-delegates
returns-clause-delegates c = λ p k ms g r. enters_delegate p k ms g r
