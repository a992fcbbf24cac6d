use Rattle.cli_tables.specs.CellRules.{IsCleanRow}
use Rattle.cli_tables.proofs.rules.first_in_row.Given as goal

abbrev pub invariant-loop-c : goal.invariant-loop-c
invariant-loop-c l = IsCleanRow l.heaps.bytes l.sizes l.table l.rows l.k l.c
