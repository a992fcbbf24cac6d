-- What the tests on two regions say of their places.
use Rattle.std.proofs.Common.{◌≡◌, ◌<◌, ◌≤◌, ℕ, Bool, true, false, not, inl, inr, ◌&&◌, ◌||◌, leb, eqb, refl, arith}
use Rattle.std.proofs.lemmas.Bool.Decides.{nat_tests}
use Rattle.std.proofs.lemmas.Bool.{leb-true, eqb-true, and_parts, or_cases, or_parts, not-true, not-false, true_from_ne_false, both_ways}
use Rattle.cil_model.specs.declared.body.Region.{Region}
use Rattle.region_tree.specs.Nesting.{are_apart, handlers_meet, have_same_try, is_misplaced, is_nested, lies_in, parts_meet, ranges_meet}
use Rattle.block_laws.specs.Blocks.{HasParts}

-- both parts of one lie between two places
pub record BothIn (d : Region) (from to : ℕ) : Type 0 where
  pub try_from : from ≤ d.try_from
  pub try_to : d.try_to ≤ to
  pub handler_from : from ≤ d.handler_from
  pub handler_to : d.handler_to ≤ to

pub data Apart (a b c d : ℕ) : Type 0 where
  left : b ≤ c → Apart a b c d
  right : d ≤ a → Apart a b c d

pub record PartsApart (d r : Region) : Type 0 where
  pub tries : Apart d.try_from d.try_to r.try_from r.try_to
  pub try_handler : Apart d.try_from d.try_to r.handler_from r.handler_to
  pub handler_try : Apart d.handler_from d.handler_to r.try_from r.try_to
  pub handlers : Apart d.handler_from d.handler_to r.handler_from r.handler_to

pub data Nested (d r : Region) : Type 0 where
  within_try : BothIn d r.try_from r.try_to → Nested d r
  within_handler : BothIn d r.handler_from r.handler_to → Nested d r

pub data Lie (d r : Region) : Type 0 where
  nested_in_it : Nested d r → Lie d r
  apart : PartsApart d r → Lie d r
  of_one_try : d.try_from ≡ r.try_from → d.try_to ≡ r.try_to → have_same_try d r ≡ true → Lie d r

both_in : (d : Region) (from to : ℕ) → (lies_in d.try_from d.try_to from to && lies_in d.handler_from d.handler_to from to) ≡ true → BothIn d from to
both_in d from to e =
    let two = and_parts (lies_in d.try_from d.try_to from to) (lies_in d.handler_from d.handler_to from to) e in
    let x = and_parts (leb from d.try_from) (leb d.try_to to) two.0 in
    let y = and_parts (leb from d.handler_from) (leb d.handler_to to) two.1 in
    record {
      try_from = leb-true from d.try_from x.0;
      try_to = leb-true d.try_to to x.1;
      handler_from = leb-true from d.handler_from y.0;
      handler_to = leb-true d.handler_to to y.1;
    }

ranges_apart : (a b c d : ℕ) → a < b → c < d → ranges_meet a b c d ≡ false → Apart a b c d
ranges_apart a b c d x y e = go (leb b c) refl
  where
    go : (t : Bool) → leb b c ≡ t → Apart a b c d
    go true f = left (leb-true b c f)
    go false f = right (grind (arith, nat_tests))

pub nested : (d r : Region) → is_nested d r ≡ true → Nested d r
nested d r e =
    elim (or_cases (lies_in d.try_from d.try_to r.try_from r.try_to && lies_in d.handler_from d.handler_to r.try_from r.try_to) (lies_in d.try_from d.try_to r.handler_from r.handler_to && lies_in d.handler_from d.handler_to r.handler_from r.handler_to) e) [
      | inl x ↦ within_try (both_in d r.try_from r.try_to x)
      | inr x ↦ within_handler (both_in d r.handler_from r.handler_to x)
    ]

all_apart : (d r : Region) → HasParts d → HasParts r → parts_meet d r ≡ false → Lie d r
all_apart d r dp rp e =
    let two = or_parts (ranges_meet d.try_from d.try_to r.try_from r.try_to || ranges_meet d.try_from d.try_to r.handler_from r.handler_to) (ranges_meet d.handler_from d.handler_to r.try_from r.try_to || handlers_meet d r) e in
    let x = or_parts (ranges_meet d.try_from d.try_to r.try_from r.try_to) (ranges_meet d.try_from d.try_to r.handler_from r.handler_to) two.0 in
    let y = or_parts (ranges_meet d.handler_from d.handler_to r.try_from r.try_to) (handlers_meet d r) two.1 in
    apart (record {
      tries = ranges_apart d.try_from d.try_to r.try_from r.try_to dp.has_try rp.has_try x.0;
      try_handler = ranges_apart d.try_from d.try_to r.handler_from r.handler_to dp.has_try rp.has_handler x.1;
      handler_try = ranges_apart d.handler_from d.handler_to r.try_from r.try_to dp.has_handler rp.has_try y.0;
      handlers = ranges_apart d.handler_from d.handler_to r.handler_from r.handler_to dp.has_handler rp.has_handler y.1;
    })

one_try : (d r : Region) → have_same_try d r ≡ true → Lie d r
one_try d r e =
    let two = and_parts (eqb d.try_from r.try_from) (eqb d.try_to r.try_to) e in
    of_one_try (eqb-true d.try_from r.try_from two.0) (eqb-true d.try_to r.try_to two.1) e

both_apart : (d r : Region) → HasParts d → HasParts r → are_apart d r ≡ true → Lie d r
both_apart d r dp rp e =
    elim (or_cases (not (parts_meet d r)) (have_same_try d r && not (handlers_meet d r)) e) [
      | inl x ↦ all_apart d r dp rp (not-true (parts_meet d r) x)
      | inr x ↦ one_try d r (and_parts (have_same_try d r) (not (handlers_meet d r)) x).0
    ]

-- A clause that isn't misplaced before another lies in a part of it, apart from it, or has its try.
pub lie : (d r : Region) → HasParts d → HasParts r → is_misplaced d r ≡ false → Lie d r
lie d r dp rp e =
    let two = or_parts (is_nested r d) (not (is_nested d r || are_apart d r)) e in
    elim (or_cases (is_nested d r) (are_apart d r) (not-false (is_nested d r || are_apart d r) two.1)) [
      | inl x ↦ nested_in_it (nested d r x)
      | inr x ↦ both_apart d r dp rp x
    ]

-- ---- a clause in which an earlier one of the same try is nested

impossible : (d s r : Region) → HasParts d → HasParts s → HasParts r → Nested d s → d.try_from ≡ r.try_from → d.try_to ≡ r.try_to → Lie s r → ⊥
impossible d s r dp sp rp (within_try n) f u (nested_in_it (within_try x)) = omega (arith, n.try_from, n.try_to, n.handler_to, x.try_to, dp.has_try, dp.is_behind, dp.has_handler, f, u)
impossible d s r dp sp rp (within_try n) f u (nested_in_it (within_handler x)) = omega (arith, n.try_from, x.try_from, rp.is_behind, dp.has_try, f, u)
impossible d s r dp sp rp (within_try n) f u (apart x) = meets x.tries
  where
    meets : Apart s.try_from s.try_to r.try_from r.try_to → ⊥
    meets (left y) = omega (arith, y, n.try_from, n.try_to, dp.has_try, f, u)
    meets (right y) = omega (arith, y, n.try_from, n.try_to, dp.has_try, f, u)
impossible d s r dp sp rp (within_try n) f u (of_one_try x y e) = omega (arith, x, y, n.handler_to, dp.is_behind, dp.has_handler, f, u)
impossible d s r dp sp rp (within_handler n) f u (nested_in_it (within_try x)) = omega (arith, n.handler_to, x.handler_to, dp.is_behind, dp.has_handler, f, u)
impossible d s r dp sp rp (within_handler n) f u (nested_in_it (within_handler x)) = omega (arith, n.try_from, x.handler_from, rp.is_behind, dp.has_try, f, u)
impossible d s r dp sp rp (within_handler n) f u (apart x) = meets x.handler_try
  where
    meets : Apart s.handler_from s.handler_to r.try_from r.try_to → ⊥
    meets (left y) = omega (arith, y, n.try_from, n.try_to, dp.has_try, f, u)
    meets (right y) = omega (arith, y, n.try_from, n.try_to, dp.has_try, f, u)
impossible d s r dp sp rp (within_handler n) f u (of_one_try x y e) = omega (arith, x, y, n.try_from, sp.is_behind, dp.has_try, f, u)

pub stays_outmost : (d s r : Region) → HasParts d → HasParts s → HasParts r → is_nested d s ≡ true → have_same_try d r ≡ true → is_misplaced s r ≡ true
stays_outmost d s r dp sp rp n t =
    let two = and_parts (eqb d.try_from r.try_from) (eqb d.try_to r.try_to) t in
    true_from_ne_false (is_misplaced s r) (λ e. impossible d s r dp sp rp (nested d s n) (eqb-true d.try_from r.try_from two.0) (eqb-true d.try_to r.try_to two.1) (lie s r sp rp e))

pub absurd_try : {P : Type 0} (d r : Region) → have_same_try d r ≡ false → have_same_try d r ≡ true → P
absurd_try d r f t = absurd (both_ways (have_same_try d r) f t)
