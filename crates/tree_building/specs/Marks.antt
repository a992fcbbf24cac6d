-- Places of the code between marked ones.
use Rattle.std.specs.Prelude.{◌≡◌, ◌<◌, ℕ, Bool, false, List, slice_index_or}

-- no place within a range is marked
abbrev pub NoneWithin : List Bool → (from to : ℕ) → Type 0
NoneWithin marks from to = (q : ℕ) → from < q → q < to → slice_index_or marks q false ≡ false
