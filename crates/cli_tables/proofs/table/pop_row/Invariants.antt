use Rattle.cli_tables.specs.Growth.{IsPopped}
use Rattle.cli_tables.proofs.table.pop_row.Given as goal

abbrev pub invariant-loop-k : goal.invariant-loop-k
invariant-loop-k l = IsPopped l.fn.columns.items l.k l.columns.items
