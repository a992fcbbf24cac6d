use Rattle.std.proofs.Common.{◌≡◌, map}
use Rattle.std.specs.List.{range_with_len}
use Rattle.cli_tables.specs.Tables.{blank_table}
use Rattle.cli_tables.proofs.reading.blank_tables.Given as goal

abbrev pub invariant-loop-table : goal.invariant-loop-table
invariant-loop-table l = l.tables.items ≡ map blank_table (range_with_len 0 l.table)
