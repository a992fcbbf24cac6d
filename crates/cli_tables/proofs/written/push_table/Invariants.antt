use Rattle.std.proofs.Common.{◌≡◌, ◌++◌}
use Rattle.cli_tables.specs.Written.{pieces, row_bytes}
use Rattle.cli_tables.proofs.written.push_table.Given as goal

abbrev pub invariant-loop-row : goal.invariant-loop-row
invariant-loop-row l = l.out.items ≡ l.initial.out.items ++ pieces (row_bytes l.sizes l.table l.cells) l.row
