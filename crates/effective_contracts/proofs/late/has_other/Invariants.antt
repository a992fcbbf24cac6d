use Rattle.std.proofs.Common.{◌≡◌, ◌==◌, drop}
use Rattle.std.specs.Prelude.{not}
use Rattle.cil_model.specs.declared.program.Source.{Source}
use Rattle.cil_semantics.specs.Words.{any}
use Rattle.effective_contracts.proofs.late.has_other.Given as goal

abbrev pub invariant-loop-source : goal.invariant-loop-source
invariant-loop-source l =
    any (λ (s : Source). not (s.method == l.m)) (drop l.source-index l.sources) ≡ any (λ (s : Source). not (s.method == l.m)) l.sources
