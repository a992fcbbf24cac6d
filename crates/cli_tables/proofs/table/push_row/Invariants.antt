use Rattle.cli_tables.specs.Growth.{IsPushed}
use Rattle.cli_tables.proofs.table.push_row.Given as goal

abbrev pub invariant-loop-k : goal.invariant-loop-k
invariant-loop-k l = IsPushed l.fn.columns.items l.cells l.k l.columns.items
