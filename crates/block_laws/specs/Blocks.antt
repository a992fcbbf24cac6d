-- How finished code lies to a clause that comes later in the table (ECMA-335, I.12.4.2.7 and III.1.7.5).
use Rattle.std.specs.Prelude.{◌≡◌, ◌≤◌, ◌⊎◌, ℕ, false}
use Rattle.cil_model.specs.declared.body.Region.{Region}
use Rattle.region_tree.specs.Nesting.{have_same_try, is_misplaced}
pub use Rattle.region_tree.specs.Order.{HasParts}

-- The code between two places lies whole in a part of a clause, or outside of both.
pub data LiesWhole (r : Region) (from to : ℕ) : Type 0 where
  before : to ≤ r.try_from → LiesWhole r from to
  in_try : r.try_from ≤ from → to ≤ r.try_to → LiesWhole r from to
  between : r.try_to ≤ from → to ≤ r.handler_from → LiesWhole r from to
  in_handler : r.handler_from ≤ from → to ≤ r.handler_to → LiesWhole r from to
  behind : r.handler_to ≤ from → LiesWhole r from to

-- a clause that may stand so before another, and whose try is another one
pub record MayPrecede (r earlier : Region) : Type 0 where
  pub parts : HasParts earlier
  pub is_placed : is_misplaced earlier r ≡ false
  pub has_own_try : have_same_try earlier r ≡ false

-- a place isn't within some code
abbrev pub IsOutside : (place from to : ℕ) → Type 0
IsOutside q from to = (q ≤ from) ⊎ (to ≤ q)

-- no part of a clause begins or ends within some code
pub record CutsNothing (r : Region) (from to : ℕ) : Type 0 where
  pub try_from : IsOutside r.try_from from to
  pub try_to : IsOutside r.try_to from to
  pub handler_from : IsOutside r.handler_from from to
  pub handler_to : IsOutside r.handler_to from to
