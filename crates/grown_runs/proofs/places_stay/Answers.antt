use Rattle.grown_runs.proofs.PlaceLaws.{storage_same}
use Rattle.grown_runs.proofs.StoreLaws.{stored_same, default_same}
use Rattle.grown_runs.proofs.places_stay.Goals as goal

pub returns-clause-kinds : goal.returns-clause-kinds
returns-clause-kinds c = λ p0 p h t. storage_same p0 p h t

pub returns-clause-stores : goal.returns-clause-stores
returns-clause-stores c = λ p0 p h t v. stored_same p0 p h 1001 t v

pub returns-clause-defaults : goal.returns-clause-defaults
returns-clause-defaults c = λ p0 p h t. default_same p0 p h 1001 t
