use Rattle.std.proofs.Common.{◌≡◌}
use Rattle.cli_tables.specs.Written.{has_rows, bits_of}
use Rattle.cli_tables.proofs.written.valid_bits.Given as goal

abbrev pub invariant-loop-table : goal.invariant-loop-table
invariant-loop-table l = l.bits ≡ bits_of (has_rows l.sizes) l.table
