use Rattle.std.proofs.Common.{◌≡◌, drop}
use Rattle.cil_model.specs.declared.contract.Clause.{Clause}
use Rattle.cil_semantics.specs.Words.{any}
use Rattle.effective_contracts.specs.Effective.{is_precondition}
use Rattle.effective_contracts.proofs.late.has_precondition.Given as goal

abbrev pub invariant-loop-clause : goal.invariant-loop-clause
invariant-loop-clause l =
    any (λ (x : Clause). is_precondition x.kind) (drop l.clause-index l.clauses) ≡ any (λ (x : Clause). is_precondition x.kind) l.clauses
