use Rattle.std.proofs.Common.{◌≡◌, ◌≤◌, length, map}
use Rattle.std.specs.List.{range_with_len}
use Rattle.cli_tables.specs.Layout.{table_start, whole_table}
use Rattle.cli_tables.proofs.ReadingLaws.{NoneBelow}
use Rattle.cli_tables.proofs.reading.read_tables.Given as goal

abbrev pub invariant-loop-table : goal.invariant-loop-table
invariant-loop-table l = record {
  read : l.tables.items ≡ map (whole_table l.stream) (range_with_len 0 l.table);
  place : l.start ≡ table_start l.stream l.table;
  near : l.start ≤ length l.stream;
  clean : NoneBelow l.heaps.bytes l.stream l.assembly l.table;
}
