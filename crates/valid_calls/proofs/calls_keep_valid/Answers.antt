use Rattle.valid_calls.proofs.calls_keep_valid.Goals as goal
use Rattle.valid_calls.proofs.MemberLaws.{members_valid}
use Rattle.valid_calls.proofs.NewValidLaws.{makes_valid}
use Rattle.valid_calls.proofs.CallStepLaws.{call_stays, new_stays}
use Rattle.valid_calls.proofs.ExceptionValidLaws.{exceptions_valid}

pub returns-clause-members : goal.returns-clause-members
returns-clause-members c = λ p k ms g r. members_valid p k ms g r

pub returns-clause-objects : goal.returns-clause-objects
returns-clause-objects c = λ p k ms g r. makes_valid p k ms g r

pub returns-clause-calling : goal.returns-clause-calling
returns-clause-calling c = λ p k ms g r i f fs w a height found e gives. call_stays p k ms g r i f fs w a height found e gives

pub returns-clause-making : goal.returns-clause-making
returns-clause-making c = λ p k ms g r i f fs w a height found e. new_stays p k ms g r i f fs w a height found e

pub returns-clause-exceptions : goal.returns-clause-exceptions
returns-clause-exceptions c = λ p k ms g r. exceptions_valid p k ms g r
