use Rattle.cli_heaps.proofs.AcceptedLaws.{tables_fit}
use Rattle.cli_heaps.proofs.heaps.Heaps.tables.Goals as goal

pub returns-clause-whole : goal.returns-clause-whole
returns-clause-whole c = rw (← c.self.view_is, c.self.invariant.tables_are) (tables_fit c.self.inside.meta.now c.self.inside.assembly c.self.invariant.accepted).whole
