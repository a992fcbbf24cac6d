-- Which region of a table holds a place first.
use Rattle.std.specs.Prelude.{◌≡◌, ◌<◌, ◌≤◌, ◌+◌, ℕ, zero, suc, Bool, ◌||◌, List, [], ◌∷◌, ◌++◌, length, slice_index_or, if◌then◌else◌}
use Rattle.cil_model.specs.declared.body.Region.{Region}
use Rattle.cil_semantics.specs.Unwind.{holds_place}

-- in a region's handler, or in its try behind so many of its first instructions
abbrev pub is_held : (skip : ℕ) → Region → ℕ → Bool
is_held skip r q = holds_place (r.try_from + skip) r.try_to q || holds_place r.handler_from r.handler_to q

abbrev pub behind : ℕ → ℕ
behind zero = 0
behind (suc n) = suc (suc n)

-- the number, from 1 on, of the first region of which a test holds; 0 where it holds of none
abbrev pub first_number : (Region → Bool) → List Region → ℕ
first_number p [] = 0
first_number p (r ∷ rs) = if p r then 1 else behind (first_number p rs)

-- there is such a number for each place
pub record AreHolders (skip : ℕ) (rs : List Region) (count : ℕ) (holders : List ℕ) : Type 0 where
  pub size : length holders ≡ count
  pub each : (q : ℕ) → q < count → slice_index_or holders q 0 ≡ first_number (λ r. is_held skip r q) rs

-- From each place on to the one that is told for it all places have a number.
abbrev pub AreJumps : (holders jumps : List ℕ) → Type 0
AreJumps holders jumps = (p q : ℕ) → p ≤ q → q < slice_index_or jumps p 0 → q < length holders → 0 < slice_index_or holders q 0

-- The places from one up to another have the number now that had none.
pub record Fills (from to number : ℕ) (old new : List ℕ) : Type 0 where
  pub size : length new ≡ length old
  pub filled : (q : ℕ) → q < length old → from ≤ q → q < to → slice_index_or old q 0 ≡ 0 → slice_index_or new q 0 ≡ number
  pub kept : (q : ℕ) → q < length old → 0 < slice_index_or old q 0 → slice_index_or new q 0 ≡ slice_index_or old q 0
  pub before : (q : ℕ) → q < from → slice_index_or new q 0 ≡ slice_index_or old q 0
  pub later : (q : ℕ) → to ≤ q → slice_index_or new q 0 ≡ slice_index_or old q 0

-- The next region of the table holds the places that none before it holds.
abbrev pub AddsHolder : (skip : ℕ) → Region → (number : ℕ) → (old new : List ℕ) → Type 0
AddsHolder skip r number old new =
    (rs : List Region) → AreHolders skip rs (length old) old → length rs + 1 ≡ number → AreHolders skip (rs ++ r ∷ []) (length old) new
