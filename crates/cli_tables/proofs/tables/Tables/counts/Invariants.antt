use Rattle.std.proofs.Common.{◌≡◌, ℕ, ◌<◌, length, get_or}
use Rattle.cli_tables.specs.Tables.{rows_of}
use Rattle.cli_tables.proofs.tables.Tables.counts.Given as goal

abbrev pub invariant-loop-table : goal.invariant-loop-table
invariant-loop-table l = record {
  filled : (t : ℕ) → t < l.table → get_or l.counts t 0 ≡ rows_of l.self t;
  many : length l.counts ≡ 64;
}
