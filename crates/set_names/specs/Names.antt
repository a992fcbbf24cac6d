-- Names with a number each, the first that was noted (ECMA-335, II.5.2: names are equal where their bytes are).
use Rattle.std.specs.Prelude.{ℕ, ◌-◌, ◌++◌, ◌∷◌, List, [], length, get_or, find, bytes_eq, is_some, Bool, false, Option, Some, None, Vec, if◌then◌else◌}
use Rattle.std.specs.Map.{lookup}
use Rattle.std.specs.List.{range_with_len}
use Rattle.std.specs.declared.alloc.Global.{Global}

abbrev pub Name : Type 0
Name = List ℕ

abbrev pub Noted : Type 0
Noted = List (Name × ℕ)

abbrev pub number_under : Noted → Name → Option ℕ
number_under es name = lookup (λ other. bytes_eq name other) es

-- an earlier number stays
abbrev pub noted : Noted → Name → ℕ → Noted
noted es name n = if is_some (number_under es name) then es else es ++ (name, n) ∷ []

-- as a map holds them
abbrev pub contents_of : List (Vec ℕ Global × ℕ) → Noted
contents_of [] = []
contents_of ((key, n) ∷ es) = (key.items, n) ∷ contents_of es

-- ---- rows that have a name, or none

abbrev pub is_name : Name → Option Name → Bool
is_name name None = false
is_name name (Some other) = bytes_eq name other

-- the test of a row by its name, where the names stand by row from 0
abbrev pub is_under : List (Option Name) → Name → ℕ → Bool
is_under names name row = is_name name (get_or names (row - 1) None)

-- the first row of this name
abbrev pub first_under : List (Option Name) → Name → Option ℕ
first_under names name = find (is_under names name) (range_with_len 1 (length names))
