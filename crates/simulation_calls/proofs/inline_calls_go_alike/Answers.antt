use Rattle.simulation_calls.proofs.inline_calls_go_alike.Goals as goal
use Rattle.simulation_calls.proofs.InlineLaws.{captures_old, recalls_old, gives_result, loads_through, checks_here}

pub returns-clause-captures : goal.returns-clause-captures
returns-clause-captures c = λ p k ms g r. λ plan gr j q n x i h ex b' fs fs' w ss z en ei call. captures_old p k ms g r plan gr j q x h ex b' fs fs' w ss z n i en ei call

pub returns-clause-recalls : goal.returns-clause-recalls
returns-clause-recalls c = λ p k ms g r. λ plan gr j q x o v h ex b' fs fs' w ss z eo ev. recalls_old p k ms g r plan gr j q x h ex b' fs fs' w ss z o v eo ev

pub returns-clause-results : goal.returns-clause-results
returns-clause-results c = λ p k ms g r. λ plan gr j q x i h ex b' fs fs' w ss z ei call has un. gives_result p k ms g r plan gr j q x h ex b' fs fs' w ss z i ei call has un

pub returns-clause-checks : goal.returns-clause-checks
returns-clause-checks c = λ p k ms g r. λ plan i kd label home h ex b' hs' fs fs' w ss z is. checks_here p k ms g r plan i kd label home h ex b' hs' fs fs' w ss z is

pub returns-clause-loads : goal.returns-clause-loads
returns-clause-loads c = λ p k ms g r. λ plan gr j q x i h ex b' fs fs' w ss z ei call un fine. loads_through p k ms g r plan gr j q x h ex b' fs fs' w ss z i ei call un fine
