-- Which methods have bodies, where rows are appended (ECMA-335, II.22.26).
use Rattle.std.specs.Prelude.{◌≡◌, ℕ, ◌≤◌, ◌==◌}
use Rattle.cil_base.specs.declared.tables.TheConstants.{METHOD_DEF}
use Rattle.set_rows.specs.Sets.{Assembly, count_in, cell}

-- an RVA may change, but not whether it is 0
abbrev pub KeepsBodies : Assembly → Assembly → Type 0
KeepsBodies x x' = (row : ℕ) → row ≤ count_in x METHOD_DEF → (cell x' METHOD_DEF row 0 == 0) ≡ (cell x METHOD_DEF row 0 == 0)
