use Rattle.machine_laws.proofs.LiftLaws.{lifts}
use Rattle.machine_laws.proofs.simulation.lifting.Goals as goal

pub returns : goal.returns
returns g c =
    λ x. lifts (g.S.Simulation.first x) (g.S.Simulation.second x) (g.S.Simulation.alike x) (g.S.Simulation.related x) (g.S.Simulation.laid_by x) (g.S.Simulation.bound x) (g.met.S.Simulation.answers x)
