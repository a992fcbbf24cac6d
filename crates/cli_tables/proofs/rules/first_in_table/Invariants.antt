use Rattle.cli_tables.specs.CellRules.{AreClean}
use Rattle.cli_tables.proofs.rules.first_in_table.Given as goal

abbrev pub invariant-loop-k : goal.invariant-loop-k
invariant-loop-k l = AreClean l.heaps.bytes l.sizes l.table l.rows l.k
