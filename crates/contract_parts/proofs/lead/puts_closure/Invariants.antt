use Rattle.std.proofs.Common.{◌≡◌, ℕ, true, drop}
use Rattle.std.specs.List.{list_any}
use Rattle.contract_parts.specs.Parts.{closures_in}
use Rattle.contract_parts.proofs.lead.puts_closure.Given as goal

abbrev pub invariant-loop-at : goal.invariant-loop-at
invariant-loop-at l = list_any (λ (k : ℕ). true) (closures_in l.p (drop l.at l.instrs)) ≡ list_any (λ (k : ℕ). true) (closures_in l.p l.instrs)
