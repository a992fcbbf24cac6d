use Rattle.std.proofs.Common.{◌≡◌, ℕ, List, drop, map, Bor, ◌==◌}
use Rattle.std.specs.Prelude.{find}
use Rattle.cil_semantics.specs.Core.{name_or_none}
use Rattle.call_acts.proofs.names.name_among.Given as goal

abbrev pub invariant-loop-row : goal.invariant-loop-row
invariant-loop-row l =
    name_or_none (find (λ (row : ℕ × List ℕ). row.0 == l.b) (map (λ (row : ℕ × Bor (List ℕ)). (row.0, row.1.now)) (drop l.row-index l.rows)))
    ≡ name_or_none (find (λ (row : ℕ × List ℕ). row.0 == l.b) (map (λ (row : ℕ × Bor (List ℕ)). (row.0, row.1.now)) l.rows))
