use Rattle.std.proofs.Common.{◌≡◌, ℕ, ◌<◌, ◌^◌, ◌++◌, drop}
use Rattle.std.specs.Prelude.{All, map, filter}
use Rattle.std.specs.List.{enumerate_from}
use Rattle.cil_model.specs.declared.body.Instr.{Instr}
use Rattle.contract_parts.specs.Parts.{prefixes, is_prefix_at}
use Rattle.contract_parts.proofs.code.Code.prefixes.Given as goal

abbrev pub invariant-loop-instr : goal.invariant-loop-instr
invariant-loop-instr l =
    (l.place ≡ l.instr-index)
    × (l.places.items ++ map (λ (x : ℕ × Instr). x.0) (filter (is_prefix_at l.self) (enumerate_from l.instr-index (drop l.instr-index l.instrs))) ≡ prefixes l.self)
    × All (λ (at : ℕ). at < 2 ^ 31) l.places.items
