use Rattle.std.proofs.Common.{◌≡◌, ◌==◌, drop}
use Rattle.std.specs.Prelude.{filter}
use Rattle.cil_model.specs.declared.program.Impl.{Impl}
use Rattle.cil_semantics.specs.Words.{any}
use Rattle.effective_contracts.specs.Invariants.{is_dispose_row}
use Rattle.effective_contracts.proofs.disposal.is_named.Given as goal

abbrev pub invariant-loop-row : goal.invariant-loop-row
invariant-loop-row l =
    any (λ (i : Impl). i.body == l.m) (filter (is_dispose_row l.program) (drop l.row-index l.rows))
    ≡ any (λ (i : Impl). i.body == l.m) (filter (is_dispose_row l.program) l.rows)
