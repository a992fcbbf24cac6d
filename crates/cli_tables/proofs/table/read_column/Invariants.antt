use Rattle.std.proofs.Common.{◌≡◌}
use Rattle.cli_tables.specs.Stream.{strided}
use Rattle.cli_tables.proofs.table.read_column.Given as goal

abbrev pub invariant-loop-row : goal.invariant-loop-row
invariant-loop-row l = l.cells.items ≡ strided l.bytes l.start l.stride l.width l.row
