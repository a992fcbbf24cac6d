use Rattle.same_behaviour.proofs.BoundLaws.{same_bound}
use Rattle.grown_runs.proofs.EntryLaws.{entries_same}
use Rattle.same_behaviour.proofs.entries_stay.Goals as goal

pub returns-clause-entries : goal.returns-clause-entries
returns-clause-entries c = λ p0 p k ms g r x m args e. entries_same p0 p k g.exception x.grows m args e

pub returns-clause-bound : goal.returns-clause-bound
returns-clause-bound c = λ p0 p k ms g r x. same_bound p0 p k ms g r x
