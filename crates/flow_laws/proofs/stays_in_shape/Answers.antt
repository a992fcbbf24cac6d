use Rattle.flow_laws.proofs.StepLaws.{has_enough}
use Rattle.flow_laws.proofs.stays_in_shape.Goals as goal

pub returns-clause-enough : goal.returns-clause-enough
returns-clause-enough c = λ p k g height plain ok s h. has_enough p k g height plain ok s h
