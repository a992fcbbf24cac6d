-- The rows of a table by a number in each: from a type to the rows that are of it (ECMA-335, II.22).
use Rattle.std.specs.Prelude.{◌≡◌, ℕ, ◌-◌, ◌<◌, ◌≤◌, ◌==◌, Bool, false, List, [], ◌∷◌, ◌++◌, nat_lt, length, get_or, set, filter, if◌then◌else◌, Option, Some, None}
use Rattle.std.specs.List.{range_with_len}
use Rattle.cil_base.specs.declared.tables.TheConstants.{TYPE_DEF}
use Rattle.set_rows.specs.Sets.{Assembly, count_in, rows_in, cell}
use Rattle.set_rows.specs.Owners.{owner}

-- the rows with a number in a column
abbrev pub rows_with : Assembly → ℕ → ℕ → ℕ → List ℕ
rows_with x table column number = filter (λ row. cell x table row column == number) (rows_in x table)

abbrev pub is_owner : ℕ → Option ℕ → Bool
is_owner row None = false
is_owner row (Some other) = other == row

-- the rows of Field (column 4) or MethodDef (column 5) that a TypeDef row owns
abbrev pub owned : Assembly → ℕ → ℕ → ℕ → List ℕ
owned x column table row = filter (λ k. is_owner row (owner x column table k)) (rows_in x table)

-- ---- as lists by number from 0

-- the rows of a number, where the numbers stand by row from 0
abbrev pub rows_under : List ℕ → ℕ → List ℕ
rows_under numbers n = filter (λ row. get_or numbers (row - 1) 0 == n) (range_with_len 1 (length numbers))

-- the lists with a row more in that of a number, where there is one
abbrev pub with_row : List (List ℕ) → ℕ → ℕ → List (List ℕ)
with_row lists n row = if nat_lt n (length lists) then set lists n (get_or lists n [] ++ row ∷ []) else lists

-- the rows of each number below a bound
pub record AreListed (rows : ℕ → List ℕ) (bound : ℕ) (lists : List (List ℕ)) : Type 0 where
  pub count : length lists ≡ bound
  pub items : (n : ℕ) → n < bound → get_or lists n [] ≡ rows n

-- the rows that each TypeDef row owns, by its number
abbrev pub AreOwned : Assembly → ℕ → ℕ → List (List ℕ) → Type 0
AreOwned x column table lists = (row : ℕ) → 1 ≤ row → row ≤ count_in x TYPE_DEF → get_or lists row [] ≡ owned x column table row
