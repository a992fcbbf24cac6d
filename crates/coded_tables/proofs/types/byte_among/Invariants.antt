use Rattle.std.proofs.Common.{◌≡◌, ℕ, List, drop, Bor}
use Rattle.std.specs.Prelude.{bytes_eq, find, option_map}
use Rattle.coded_tables.proofs.types.byte_among.Given as goal

abbrev pub invariant-loop-row : goal.invariant-loop-row
invariant-loop-row l =
    option_map (λ (row : ℕ × Bor (List ℕ)). row.0) (find (λ (row : ℕ × Bor (List ℕ)). bytes_eq l.name row.1.now) (drop l.row-index l.rows))
    ≡ option_map (λ (row : ℕ × Bor (List ℕ)). row.0) (find (λ (row : ℕ × Bor (List ℕ)). bytes_eq l.name row.1.now) l.rows)
