use Rattle.std.proofs.Common.{◌≡◌, ℕ, ◌<◌, None}
use Rattle.cli_tables.specs.CellRules.{rule_at}
use Rattle.cli_tables.proofs.rules.is_clean.Given as goal

abbrev pub invariant-loop-c : goal.invariant-loop-c
invariant-loop-c l = (c : ℕ) → c < l.c → (k : ℕ) → k < l.count → rule_at l.heaps.bytes l.sizes l.table l.rows k c ≡ None
