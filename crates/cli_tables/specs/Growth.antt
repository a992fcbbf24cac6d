-- Columns to which numbers are appended.
use Rattle.cil_base.specs.declared.rule.Rule.TheVariants.{L5}
use Rattle.cil_base.specs.declared.refusal.Refusal.{Refusal}
use Rattle.std.specs.Prelude.{◌≡◌, ℕ, ◌-◌, ◌^◌, ◌<◌, ◌≤◌, List, [], ◌∷◌, ◌++◌, length, take, get_or}

-- The first columns have one number more, and the others are as before.
pub record IsPushed (old : List (List ℕ)) (cells : List ℕ) (count : ℕ) (new : List (List ℕ)) : Type 0 where
  pub many : length new ≡ length old
  pub pushed : (c : ℕ) → c < count → get_or new c [] ≡ get_or old c [] ++ get_or cells c 0 ∷ []
  pub others : (c : ℕ) → count ≤ c → get_or new c [] ≡ get_or old c []

-- The first columns have lost their last number, and the others are as before.
pub record IsPopped (old : List (List ℕ)) (count : ℕ) (new : List (List ℕ)) : Type 0 where
  pub many : length new ≡ length old
  pub popped : (c : ℕ) → c < count → get_or new c [] ≡ take (length (get_or old c []) - 1) (get_or old c [])
  pub others : (c : ℕ) → count ≤ c → get_or new c [] ≡ get_or old c []

-- the refusal of a table that has as many rows as a written one may have, 2 ^ 24 - 1
abbrev pub table_full : ℕ → Refusal
table_full table = record { rule = L5; assembly = 0; table = table; row = 0; at = 2 ^ 24 }
