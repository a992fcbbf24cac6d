-- How the regions of a table lie that break no rule on nesting (ECMA-335, I.12.4.2.7).
use Rattle.std.specs.Prelude.{◌≡◌, ◌≤◌, ◌<◌, ◌⊎◌, ℕ, Bool, false, List, All, slice_index_or, length}
use Rattle.std.specs.List.{AllPairs, list_any}
use Rattle.cil_model.specs.declared.body.Region.{Region}
use Rattle.cil_model.specs.declared.body.Instr.{Instr}
use Rattle.region_tree.specs.Holders.{AreHolders}
use Rattle.region_tree.specs.Rules.{breaks_region, crosses, is_out_of_place}

-- there is code in its try and in its handler, which stands behind the try
pub record HasParts (r : Region) : Type 0 where
  pub has_try : r.try_from < r.try_to
  pub is_behind : r.try_to ≤ r.handler_from
  pub has_handler : r.handler_from < r.handler_to

-- both parts lie in a range
pub record AreWithin (r : Region) (from to : ℕ) : Type 0 where
  pub try_from : from ≤ r.try_from
  pub try_to : r.try_to ≤ to
  pub handler_from : from ≤ r.handler_from
  pub handler_to : r.handler_to ≤ to

-- one range ends before the other begins
abbrev pub AreDisjoint : (a b c d : ℕ) → Type 0
AreDisjoint a b c d = (b ≤ c) ⊎ (d ≤ a)

pub record AreApart (r s : Region) : Type 0 where
  pub tries : AreDisjoint r.try_from r.try_to s.try_from s.try_to
  pub try_handler : AreDisjoint r.try_from r.try_to s.handler_from s.handler_to
  pub handler_try : AreDisjoint r.handler_from r.handler_to s.try_from s.try_to
  pub handlers : AreDisjoint r.handler_from r.handler_to s.handler_from s.handler_to

-- The region lies in a part of a later one, or apart from it, or has the same try and another handler.
pub data StandsBefore (r s : Region) : Type 0 where
  in_try : AreWithin r s.try_from s.try_to → StandsBefore r s
  in_handler : AreWithin r s.handler_from s.handler_to → StandsBefore r s
  apart : AreApart r s → StandsBefore r s
  one_try : r.try_from ≡ s.try_from → r.try_to ≡ s.try_to → AreDisjoint r.handler_from r.handler_to s.handler_from s.handler_to → StandsBefore r s

-- Each region is proper, and may precede those behind it in the table.
abbrev pub AreInOrder : List Region → Type 0
AreInOrder rs = All HasParts rs × AllPairs StandsBefore rs

-- ---- what is known of the places of a body

-- the regions are in order, and each place has its first region, with the first instruction of a try and without it
pub record AreKnown (rs : List Region) (outer inner : List ℕ) : Type 0 where
  pub order : AreInOrder rs
  pub held : AreHolders 0 rs (length outer) outer
  pub held_inside : AreHolders 1 rs (length inner) inner

-- control that goes from a place to another one crosses the edge of some region where it may not
abbrev pub is_crossed : List Region → (leaves : Bool) → (at to : ℕ) → Bool
is_crossed rs leaves k t = list_any (λ r. crosses leaves r k t) rs

-- No instruction breaks a rule on edges or on what stands where.
abbrev pub AreKept : List Region → List Instr → Type 0
AreKept rs is = (k : ℕ) (d : Instr) → k < length is → (breaks_region rs k (slice_index_or is k d) ≡ false) × (is_out_of_place rs k (slice_index_or is k d) ≡ false)
