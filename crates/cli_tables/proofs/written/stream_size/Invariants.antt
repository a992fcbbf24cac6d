use Rattle.std.proofs.Common.{◌≡◌, ◌+◌, ◌*◌, ◌^◌, ◌≤◌}
use Rattle.std.specs.Prelude.{count_ones}
use Rattle.cli_tables.specs.Stream.{bytes_below}
use Rattle.cli_tables.specs.Written.{has_rows, bits_of}
use Rattle.cli_tables.proofs.written.stream_size.Given as goal

abbrev pub invariant-loop-table : goal.invariant-loop-table
invariant-loop-table l = record {
  sum : l.size ≡ 24 + 4 * count_ones (bits_of (has_rows l.sizes) 64) + bytes_below l.sizes l.table;
  small : l.size ≤ 280 + l.table * 2 ^ 38;
}
