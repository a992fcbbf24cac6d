-- Places of the code that are marked because a part of a region begins or ends there.
use Rattle.std.specs.Prelude.{◌≡◌, ◌<◌, ◌||◌, ◌==◌, not, ℕ, Bool, false, List, length, slice_index_or, Option, Some, None}
use Rattle.std.specs.List.{list_any}
use Rattle.cil_model.specs.declared.body.Region.{Region}

-- a part of the region begins or ends at the place
abbrev pub has_edge : ℕ → Region → Bool
has_edge q r = (r.try_from == q || r.try_to == q) || (r.handler_from == q || r.handler_to == q)

-- of so many places those are marked at which a part of some region begins or ends
pub record AreMarks (rs : List Region) (count : ℕ) (marks : List Bool) : Type 0 where
  pub size : length marks ≡ count
  pub each : (q : ℕ) → q < count → slice_index_or marks q false ≡ list_any (has_edge q) rs

-- a place is marked besides, if it is one of the list's
pub record AddsMark (place : ℕ) (old new : List Bool) : Type 0 where
  pub size : length new ≡ length old
  pub each : (q : ℕ) → q < length old → slice_index_or new q false ≡ ((place == q) || slice_index_or old q false)

-- the places at which a region's parts begin and end are marked besides
pub record AddsMarks (r : Region) (old new : List Bool) : Type 0 where
  pub size : length new ≡ length old
  pub each : (q : ℕ) → q < length old → slice_index_or new q false ≡ (has_edge q r || slice_index_or old q false)

-- there is such a place, and it isn't marked
abbrev pub is_unmarked : Option Bool → Bool
is_unmarked (Some marked) = not marked
is_unmarked None = false
