-- Rows that lead to rows: from a nested type to the one around it, from a reference to its scope (ECMA-335, II.22.32, II.22.38).
use Rattle.std.specs.Prelude.{ℕ, zero, suc, ◌-◌, ◌&&◌, ◌==◌, nat_lt, nat_le, List, [], ◌∷◌, length, get_or, set, Option, Some, None, option_map, if◌then◌else◌}

-- 0 names no row
abbrev pub if_row : ℕ → Option ℕ
if_row row = if row == 0 then None else Some row

-- what follows a row, where there is one
abbrev pub onwards : (ℕ → Option (List ℕ)) → Option ℕ → Option (List ℕ)
onwards go None = Some []
onwards go (Some row) = go row

-- The rows from this one on, where there are at most so many; none where there are more, as in a circle.
unfoldable pub path_within : (ℕ → Option ℕ) → ℕ → ℕ → Option (List ℕ)
path_within next zero row = None
path_within next (suc n) row = option_map (λ rest. row ∷ rest) (onwards (path_within next n) (next row))

-- ---- what each row leads to, as a list by row from 0

abbrev pub next_in : List ℕ → ℕ → Option ℕ
next_in rows row = if nat_lt 0 row && nat_le row (length rows) then if_row (get_or rows (row - 1) 0) else None

-- the list in which a row leads to another; the number of no row changes nothing
abbrev pub with_next : List ℕ → ℕ → ℕ → List ℕ
with_next rows row next = if nat_lt 0 row && nat_le row (length rows) then set rows (row - 1) next else rows
