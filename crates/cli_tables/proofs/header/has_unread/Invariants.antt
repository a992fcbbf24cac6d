use Rattle.std.proofs.Common.{◌≡◌, ℕ, ◌<◌, false}
use Rattle.cli_tables.specs.TableRules.{is_unread}
use Rattle.cli_tables.proofs.header.has_unread.Given as goal

abbrev pub invariant-loop-table : goal.invariant-loop-table
invariant-loop-table l = (k : ℕ) → k < l.table → is_unread l.stream k ≡ false
