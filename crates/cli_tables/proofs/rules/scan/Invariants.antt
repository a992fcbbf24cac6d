use Rattle.std.proofs.Common.{◌≡◌, ℕ, ◌<◌, get_or, None}
use Rattle.cli_tables.specs.CellRules.{cell_rule, before}
use Rattle.cli_tables.proofs.rules.scan.Given as goal

abbrev pub invariant-loop-k : goal.invariant-loop-k
invariant-loop-k l = (k : ℕ) → k < l.k → cell_rule l.heaps.bytes l.sizes l.column (before l.cells k) (get_or l.cells k 0) ≡ None
