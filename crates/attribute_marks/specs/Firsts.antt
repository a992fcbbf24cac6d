-- The first row of each number, as a list by number.
use Rattle.std.specs.Prelude.{◌≡◌, ℕ, ◌+◌, ◌-◌, ◌≤◌, ◌==◌, List, [], ◌∷◌, length, get_or, find}
use Rattle.std.specs.List.{range_with_len}
use Rattle.set_rows.specs.Owners.{if_row}

abbrev pub first_or_none : List ℕ → ℕ
first_or_none [] = 0
first_or_none (row ∷ rows) = row

-- the row of each number up to a count, where there is one; numbers: by row from 0
pub record AreFirst (numbers : List ℕ) (count : ℕ) (firsts : List ℕ) : Type 0 where
  pub size : length firsts ≡ count + 1
  pub rows : (n : ℕ) → 1 ≤ n → n ≤ count → if_row (get_or firsts n 0) ≡ find (λ row. get_or numbers (row - 1) 0 == n) (range_with_len 1 (length numbers))
