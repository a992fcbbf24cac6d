-- The types that own rows of Field and MethodDef (ECMA-335, II.22.37).
use Rattle.std.specs.Prelude.{◌≡◌, ℕ, ◌+◌, ◌-◌, ◌==◌, ◌&&◌, max, nat_lt, nat_le, Bool, List, length, get_or, find, Option, Some, None, if◌then◌else◌}
use Rattle.set_rows.specs.Sets.{Assembly, count_in, is_row, rows_in, cell}

abbrev pub if_row : ℕ → Option ℕ
if_row row = if row == 0 then None else Some row

-- one past the last row of a table that a TypeDef row owns by a list column
abbrev pub owned_end : Assembly → ℕ → ℕ → ℕ → ℕ
owned_end x column table row = if nat_lt row (count_in x 0x02) then cell x 0x02 (row + 1) column else count_in x table + 1

abbrev pub owns : Assembly → ℕ → ℕ → ℕ → ℕ → Bool
owns x column table k row = nat_le (max 1 (cell x 0x02 row column)) k && nat_lt k (owned_end x column table row)

-- the TypeDef row that owns a row of Field (column 4) or MethodDef (column 5)
unfoldable pub owner : Assembly → ℕ → ℕ → ℕ → Option ℕ
owner x column table k = if is_row x table k then find (owns x column table k) (rows_in x 0x02) else None

-- ---- as a list by row from 0

-- the row in a list, where there is one
abbrev pub row_in : List ℕ → ℕ → Option ℕ
row_in rows row = if nat_lt 0 row && nat_le row (length rows) then if_row (get_or rows (row - 1) 0) else None

-- Each row's owner; 0 where it has none.
pub record AreOwners (x : Assembly) (column table : ℕ) (owners : List ℕ) : Type 0 where
  pub count : length owners ≡ count_in x table
  pub rows : (k : ℕ) → row_in owners k ≡ owner x column table k

-- The same numbers but from one place up to another.
pub record IsFilled (old new : List ℕ) (from to row : ℕ) : Type 0 where
  pub count : length new ≡ length old
  pub items : (i : ℕ) → get_or new i 0 ≡ (if nat_le from i && nat_lt i to then row else get_or old i 0)
