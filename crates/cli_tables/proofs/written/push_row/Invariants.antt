use Rattle.std.proofs.Common.{◌≡◌, ◌++◌}
use Rattle.cli_tables.specs.Written.{pieces, cell_bytes}
use Rattle.cli_tables.proofs.written.push_row.Given as goal

abbrev pub invariant-loop-column : goal.invariant-loop-column
invariant-loop-column l = l.out.items ≡ l.initial.out.items ++ pieces (cell_bytes l.sizes l.table l.cells l.row) l.column
