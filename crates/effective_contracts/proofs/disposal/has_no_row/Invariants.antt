use Rattle.std.proofs.Common.{◌≡◌, drop}
use Rattle.std.specs.Prelude.{filter}
use Rattle.effective_contracts.specs.Invariants.{has_no_row, is_dispose_row}
use Rattle.effective_contracts.proofs.disposal.has_no_row.Given as goal

abbrev pub invariant-loop-row : goal.invariant-loop-row
invariant-loop-row l =
    has_no_row (filter (is_dispose_row l.program) (drop l.row-index l.rows)) ≡ has_no_row (filter (is_dispose_row l.program) l.rows)
