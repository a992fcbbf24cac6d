use Rattle.std.proofs.Common.{◌≡◌, ◌+◌, ◌*◌, ◌≤◌, map}
use Rattle.std.specs.List.{range_with_len}
use Rattle.cli_tables.specs.Stream.{offset_of}
use Rattle.cli_tables.specs.Layout.{column_in}
use Rattle.cli_tables.proofs.table.Table.read.Given as goal

abbrev pub invariant-loop-column : goal.invariant-loop-column
invariant-loop-column l = record {
  read : l.read.items ≡ map (column_in l.bytes l.sizes l.start l.table l.rows) (range_with_len 0 l.column-index);
  place : l.at ≡ l.start + offset_of l.sizes l.table l.column-index;
  small : l.at ≤ l.start + 4 * l.column-index;
}
