use Rattle.std.proofs.Common.{◌≡◌, drop}
use Rattle.cil_semantics.specs.Words.{any}
use Rattle.effective_contracts.specs.Invariants.{is_disposable}
use Rattle.effective_contracts.proofs.disposal.is_any_disposable.Given as goal

abbrev pub invariant-loop-ty : goal.invariant-loop-ty
invariant-loop-ty l =
    any is_disposable (drop l.ty-index l.types) ≡ any is_disposable l.types
