-- Where a column holds a value.
use Rattle.std.specs.Prelude.{ℕ, ◌+◌, Bool, ◌==◌, List, [], ◌∷◌, map, filter, if◌then◌else◌}
use Rattle.std.specs.List.{enumerate_from}

abbrev pub holds : ℕ → ℕ × ℕ → Bool
holds v (place, entry) = entry == v

abbrev pub place : ℕ × ℕ → ℕ
place (at, entry) = at

-- the places of the entries that equal the value, rising; the first entry stands at place 0
abbrev pub places : ℕ → List ℕ → List ℕ
places v col = map place (filter (holds v) (enumerate_from 0 col))

-- the same of a part of a column, whose first entry stands at a place
abbrev pub places_from : ℕ → ℕ → List ℕ → List ℕ
places_from at v [] = []
places_from at v (x ∷ xs) = if x == v then at ∷ places_from (at + 1) v xs else places_from (at + 1) v xs
