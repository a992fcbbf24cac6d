use Rattle.std.proofs.Common.{◌≡◌, ℕ, ◌+◌, ◌*◌, ◌<◌, get_or, length}
use Rattle.cli_tables.specs.Stream.{tables_below, row_count}
use Rattle.cli_tables.proofs.sizes.counts.Given as goal

abbrev pub invariant-loop-table : goal.invariant-loop-table
invariant-loop-table l = record {
  place : l.at ≡ 24 + 4 * tables_below l.stream l.table;
  filled : (k : ℕ) → k < l.table → get_or l.counts k 0 ≡ row_count l.stream k;
  many : length l.counts ≡ 64;
}
