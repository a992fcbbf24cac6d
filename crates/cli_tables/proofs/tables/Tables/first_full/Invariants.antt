use Rattle.std.proofs.Common.{ℕ, ◌<◌, ◌≤◌, ◌-◌, ◌^◌}
use Rattle.cli_tables.specs.Tables.{rows_of}
use Rattle.cli_tables.proofs.tables.Tables.first_full.Given as goal

abbrev pub invariant-loop-table : goal.invariant-loop-table
invariant-loop-table l = (t : ℕ) → t < l.table → rows_of l.self t ≤ 2 ^ 24 - 1
