use Rattle.simulation_objects.proofs.calls_go_alike.Goals as goal
use Rattle.simulation_objects.proofs.CallLaws.{calls_member}
use Rattle.simulation_objects.proofs.CallStepLaws.{call_step_answers}
use Rattle.simulation_objects.proofs.DispatchLaws.{body_seen_same}
use Rattle.simulation_objects.proofs.NewLaws.{makes}
use Rattle.simulation_objects.proofs.VirtualLaws.{calls_virtual, finds_function}

pub returns-clause-looking : goal.returns-clause-looking
returns-clause-looking c = λ p ms same t s. body_seen_same p ms same t s

pub returns-clause-calling : goal.returns-clause-calling
returns-clause-calling c = λ p k ms g r. calls_member p k ms g r

pub returns-clause-virtual_calls : goal.returns-clause-virtual_calls
returns-clause-virtual_calls c = λ p k ms g r. λ call fs fs' w ss a z. calls_virtual p k ms g r call fs fs' w ss a z

pub returns-clause-functions : goal.returns-clause-functions
returns-clause-functions c = λ p k ms g r. finds_function p k ms g r

pub returns-clause-making : goal.returns-clause-making
returns-clause-making c = λ p k ms g r. makes p k ms g r

pub returns-clause-stepping : goal.returns-clause-stepping
returns-clause-stepping c = λ p k ms g r. call_step_answers p k ms g r
