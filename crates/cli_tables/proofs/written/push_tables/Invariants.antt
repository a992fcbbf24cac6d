use Rattle.std.proofs.Common.{◌≡◌, ◌++◌}
use Rattle.cli_tables.specs.Written.{pieces, table_bytes}
use Rattle.cli_tables.proofs.written.push_tables.Given as goal

abbrev pub invariant-loop-table : goal.invariant-loop-table
invariant-loop-table l = l.out.items ≡ l.initial.out.items ++ pieces (table_bytes l.sizes l.tables) l.table
