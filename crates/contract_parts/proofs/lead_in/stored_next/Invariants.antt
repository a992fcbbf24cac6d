use Rattle.std.proofs.Common.{◌≡◌, ℕ, ◌+◌, drop}
use Rattle.std.specs.Prelude.{find, not, option_and_then}
use Rattle.std.specs.List.{enumerate_from}
use Rattle.cil_model.specs.declared.body.Instr.{Instr}
use Rattle.contract_parts.specs.Parts.{is_nop}
use Rattle.contract_parts.specs.Closures.{made_by, next_line}
use Rattle.contract_parts.proofs.lead_in.stored_next.Given as goal

abbrev pub invariant-loop-instr : goal.invariant-loop-instr
invariant-loop-instr l =
    (l.place ≡ l.maker + 1 + l.instr-index)
    × (option_and_then (made_by l.maker) (find (λ (x : ℕ × Instr). not (is_nop x.1)) (enumerate_from (l.maker + 1 + l.instr-index) (drop l.instr-index l.rest)))
    ≡ option_and_then (made_by l.maker) (next_line l.code (l.maker + 1)))
