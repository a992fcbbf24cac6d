use Rattle.std.proofs.Common.{◌≡◌, ℕ, List, drop, Bor}
use Rattle.std.specs.Prelude.{bytes_eq, find, option_map}
use Rattle.look_ups.proofs.built_in.base_among.Given as goal

abbrev pub invariant-loop-row : goal.invariant-loop-row
invariant-loop-row l =
    option_map (λ (row : Bor (List ℕ) × Bor (List ℕ)). row.1.now) (find (λ (row : Bor (List ℕ) × Bor (List ℕ)). bytes_eq row.0.now l.name) (drop l.row-index l.rows))
    ≡ option_map (λ (row : Bor (List ℕ) × Bor (List ℕ)). row.1.now) (find (λ (row : Bor (List ℕ) × Bor (List ℕ)). bytes_eq row.0.now l.name) l.rows)
