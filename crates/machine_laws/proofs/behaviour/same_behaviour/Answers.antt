use Rattle.machine_laws.proofs.SameLaws.{same}
use Rattle.machine_laws.proofs.behaviour.same_behaviour.Goals as goal

pub returns : goal.returns
returns g c =
    λ x. same (g.S.Rewriting.input x) (g.S.Rewriting.contracts x) (g.S.Rewriting.output x) (g.S.Rewriting.numbers x) (g.S.Rewriting.related x) (g.S.Rewriting.laid_by x) (g.met.S.Rewriting.answers x)
