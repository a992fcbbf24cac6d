use Rattle.cli_heaps.proofs.AcceptedLaws.{tables_fit}
use Rattle.cli_heaps.proofs.heaps.Heaps.tables_offset.Goals as goal

pub returns-clause-within : goal.returns-clause-within
returns-clause-within c = rw (← c.self.view_is) (tables_fit c.self.inside.meta.now c.self.inside.assembly c.self.invariant.accepted).within
