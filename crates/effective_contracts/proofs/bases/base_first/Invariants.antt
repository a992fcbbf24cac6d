use Rattle.std.proofs.Common.{◌≡◌, drop}
use Rattle.effective_contracts.specs.Invariants.{base_first}
use Rattle.effective_contracts.proofs.bases.base_first.Given as goal

abbrev pub invariant-loop-k : goal.invariant-loop-k
invariant-loop-k l =
    l.out ≡ base_first l.program l.own l.target l.given l.k (drop l.k l.types)
