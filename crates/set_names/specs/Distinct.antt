-- Names, each once, at its first place (own).
use Rattle.std.specs.Prelude.{ℕ, ◌||◌, ◌++◌, ◌∷◌, List, [], map, bytes_eq, Bool, false, Option, Vec, if◌then◌else◌}
use Rattle.std.specs.List.{position_from}
use Rattle.std.specs.declared.alloc.Global.{Global}
use Rattle.set_names.specs.Names.{Name}

abbrev pub among : Name → List Name → Bool
among name [] = false
among name (other ∷ others) = bytes_eq name other || among name others

abbrev pub added : List Name → Name → List Name
added names name = if among name names then names else names ++ name ∷ []

abbrev pub distinct : List Name → List Name → List Name
distinct names [] = names
distinct names (name ∷ more) = distinct (added names name) more

-- where a name stands
abbrev pub place_of : List Name → Name → Option ℕ
place_of names name = position_from (bytes_eq name) 0 names

-- as a set of keys holds them
abbrev pub names_of : List (Vec ℕ Global) → List Name
names_of keys = map (λ key. key.items) keys
