-- Rows that stand in order break no rule on nesting.
use Rattle.std.proofs.Common.{◌≡◌, ◌+◌, ◌≤◌, ◌<◌, ℕ, zero, suc, Bool, true, false, not, cond, ◌||◌, ◌&&◌, List, [], ◌∷◌, ◌++◌, ◌⊎◌, inl, inr, All, length, get_or, take, refl, sym, ap, subst, ◌∙◌, arith, eqb, leb, ltb, eq-eqb}
use Rattle.std.specs.Prelude.{max, min, slice_index}
use Rattle.std.specs.List.{AllPairs}
use Rattle.std.proofs.lemmas.Bool.{eqb-true, eqb-false, leb-false, ltb-true}
use Rattle.std.proofs.lemmas.List.{get_or-take, get_or_default, length-take-le, take_all, take_more}
use Rattle.std.proofs.lemmas.List.Elements.{All-from_get_or, All-get_or, All-head, All-map, All-nil, All-tail, All-weaker}
use Rattle.std.proofs.lemmas.List.Folds.{list_any_none}
use Rattle.cil_base.proofs.Small.{never_true}
use Rattle.cil_model.specs.declared.body.Region.{Region}
use Rattle.region_tree.specs.declared.order.Extent.{Extent}
use Rattle.region_tree.specs.Nesting.{are_apart, breaks_nesting, deepest_around, depths_of, handler_start, is_misplaced, is_nested, lies_in, ranges_meet}
use Rattle.region_tree.specs.Order.{AreApart, AreDisjoint, AreInOrder, AreWithin, HasParts, StandsBefore}
use Rattle.region_tree.specs.Extents.{PlacesRow, ArePlaced, GoesOn, IsPlaced, Precedes, Row, StandInOrder, StandSoFar, regions_of}
use Rattle.region_tree.proofs.ExtentLaws.{nested_within, one_try, regions_more}

-- ---- two regions

leb_of : (a b : ℕ) → a ≤ b → leb a b ≡ true
leb_of a b h = go (leb a b) refl
  where
    go : (x : Bool) → leb a b ≡ x → leb a b ≡ true
    go true e = e
    go false e = absurd (omega (arith, h, leb-false a b e))

ltb_not : (a b : ℕ) → b ≤ a → ltb a b ≡ false
ltb_not a b h = never_true (ltb a b) (λ e. absurd (omega (arith, h, ltb-true a b e)))

ltb_of : (a b : ℕ) → a < b → ltb a b ≡ true
ltb_of a b h = leb_of (suc a) b (omega (arith, h))

lies_of : (a b c d : ℕ) → c ≤ a → b ≤ d → lies_in a b c d ≡ true
lies_of a b c d x y = rw (leb_of c a x, leb_of b d y) refl

both_of : (r : Region) (c d : ℕ) → AreWithin r c d → (lies_in r.try_from r.try_to c d && lies_in r.handler_from r.handler_to c d) ≡ true
both_of r c d w = rw (lies_of r.try_from r.try_to c d w.try_from w.try_to, lies_of r.handler_from r.handler_to c d w.handler_from w.handler_to) refl

or_true : (a : Bool) → (a || true) ≡ true
or_true true = refl
or_true false = refl

nested_of : (r s : Region) → (AreWithin r s.try_from s.try_to ⊎ AreWithin r s.handler_from s.handler_to) → is_nested r s ≡ true
nested_of r s (inl w) = rw (both_of r s.try_from s.try_to w) refl
nested_of r s (inr w) = rw (both_of r s.handler_from s.handler_to w) (or_true (lies_in r.try_from r.try_to s.try_from s.try_to && lies_in r.handler_from r.handler_to s.try_from s.try_to))

meet_not : (a b c d : ℕ) → AreDisjoint a b c d → ranges_meet a b c d ≡ false
meet_not a b c d (inl h) = ltb_not (max a c) (min b d) (omega (arith, h))
meet_not a b c d (inr h) = ltb_not (max a c) (min b d) (omega (arith, h))

apart_of : (r s : Region) → AreApart r s → are_apart r s ≡ true
apart_of r s x = rw (meet_not r.try_from r.try_to s.try_from s.try_to x.tries, meet_not r.try_from r.try_to s.handler_from s.handler_to x.try_handler, meet_not r.handler_from r.handler_to s.try_from s.try_to x.handler_try, meet_not r.handler_from r.handler_to s.handler_from s.handler_to x.handlers) refl

apart_one : (r s : Region) → r.try_from ≡ s.try_from → r.try_to ≡ s.try_to → AreDisjoint r.handler_from r.handler_to s.handler_from s.handler_to → are_apart r s ≡ true
apart_one r s x y z = rw (one_try r s x y, meet_not r.handler_from r.handler_to s.handler_from s.handler_to z) (or_true _)

-- a later one isn't nested in an earlier one
not_inside : (r s : Region) → HasParts r → HasParts s → StandsBefore r s → (AreWithin s r.try_from r.try_to ⊎ AreWithin s r.handler_from r.handler_to) → ⊥
not_inside r s p q (StandsBefore.in_try x) (inl w) = omega (arith, x.try_from, x.handler_to, w.try_from, w.handler_to, p.has_try, p.is_behind, p.has_handler, q.has_try, q.is_behind, q.has_handler)
not_inside r s p q (StandsBefore.in_try x) (inr w) = omega (arith, x.try_from, x.handler_to, w.try_from, w.handler_to, p.has_try, p.is_behind, p.has_handler, q.has_try, q.is_behind, q.has_handler)
not_inside r s p q (StandsBefore.in_handler x) (inl w) = omega (arith, x.try_from, x.handler_to, w.try_from, w.handler_to, p.has_try, p.is_behind, p.has_handler, q.has_try, q.is_behind, q.has_handler)
not_inside r s p q (StandsBefore.in_handler x) (inr w) = omega (arith, x.try_from, x.handler_to, w.try_from, w.handler_to, p.has_try, p.is_behind, p.has_handler, q.has_try, q.is_behind, q.has_handler)
not_inside r s p q (StandsBefore.apart x) (inl w) = elim x.tries [ inl h ↦ omega (arith, h, w.try_to, q.has_try) | inr h ↦ omega (arith, h, w.try_from, q.has_try) ]
not_inside r s p q (StandsBefore.apart x) (inr w) = elim x.handler_try [ inl h ↦ omega (arith, h, w.try_to, q.has_try) | inr h ↦ omega (arith, h, w.try_from, q.has_try) ]
not_inside r s p q (StandsBefore.one_try x y z) (inl w) = omega (arith, w.handler_to, y, q.is_behind, q.has_handler)
not_inside r s p q (StandsBefore.one_try x y z) (inr w) = omega (arith, w.try_from, x, p.has_try, p.is_behind)

not_behind : (r s : Region) → HasParts r → HasParts s → StandsBefore r s → is_nested s r ≡ false
not_behind r s p q m = never_true (is_nested s r) (λ e. not_inside r s p q m (nested_within s r e))

pub well_placed : (r s : Region) → HasParts r → HasParts s → StandsBefore r s → is_misplaced r s ≡ false
well_placed r s p q m = rw (not_behind r s p q m) (ap not (either m))
  where
    either : StandsBefore r s → (is_nested r s || are_apart r s) ≡ true
    either (StandsBefore.in_try x) = rw (nested_of r s (inl x)) refl
    either (StandsBefore.in_handler x) = rw (nested_of r s (inr x)) refl
    either (StandsBefore.apart x) = rw (apart_of r s x) (or_true (is_nested r s))
    either (StandsBefore.one_try x y z) = rw (apart_one r s x y z) (or_true (is_nested r s))

-- ---- depths

abbrev Lower : Row → Row → Type 0
Lower x y = is_nested x.region y.region ≡ true → x.height < y.height

abbrev Steep : List Row → Type 0
Steep [] = Unit {0}
Steep (x ∷ xs) = (0 < x.height) × ((x.height ≤ 1000) × (All (Lower x) xs × Steep xs))

deep : (x : Row) (rows : List Row) → x.height ≤ 1000 → All (Lower x) rows → Steep rows → deepest_around x.region (regions_of rows) (depths_of (regions_of rows)) + x.height ≤ 1000
deep x [] few low steep = omega (arith, few)
deep x (y ∷ ys) few low steep =
    go (is_nested x.region y.region) refl (deep x ys few (All-tail (Lower x) y ys low) steep.1.1.1) (deep y ys steep.1.0 steep.1.1.0 steep.1.1.1) (All-head (Lower x) y ys low)
  where
    go : (b : Bool) → is_nested x.region y.region ≡ b → deepest_around x.region (regions_of ys) (depths_of (regions_of ys)) + x.height ≤ 1000 → deepest_around y.region (regions_of ys) (depths_of (regions_of ys)) + y.height ≤ 1000 → Lower x y → cond b (max (deepest_around y.region (regions_of ys) (depths_of (regions_of ys)) + 1) (deepest_around x.region (regions_of ys) (depths_of (regions_of ys)))) (deepest_around x.region (regions_of ys) (depths_of (regions_of ys))) + x.height ≤ 1000
    go true e h k l = omega (arith, h, k, l e)
    go false e h k l = h

depth_at : (rows : List Row) (k : ℕ) → Steep rows → slice_index (depths_of (regions_of rows)) k ≤ 1000
depth_at [] k steep = omega arith
depth_at (x ∷ xs) zero steep = omega (arith, steep.0, deep x xs steep.1.0 steep.1.1.0 steep.1.1.1)
depth_at (x ∷ xs) (suc k) steep = depth_at xs k steep.1.1.1

later : (x : Row) (xs : List Row) → AllPairs Precedes (x ∷ xs) → AllPairs Precedes xs
later x xs pairs i j d h k = pairs (suc i) (suc j) d (omega (arith, h)) (omega (arith, k))

steep_of : (es : List Extent) (top : ℕ) (rows : List Row) → AllPairs Precedes rows → All (IsPlaced es top) rows → Steep rows
steep_of es top [] pairs all = tt
steep_of es top (x ∷ xs) pairs all =
    let here : IsPlaced es top x = All-head (IsPlaced es top) x xs all in
    (here.some, (here.few, (All-from_get_or (Lower x) xs x (λ k h. (pairs 0 (suc k) x (omega arith) (omega (arith, h))).lower), steep_of es top xs (later x xs pairs) (All-tail (IsPlaced es top) x xs all))))

-- ---- all rows

region_at : (rows : List Row) (k : ℕ) (d : Row) → get_or (regions_of rows) k d.region ≡ (get_or rows k d).region
region_at [] k d = refl
region_at (x ∷ xs) zero d = refl
region_at (x ∷ xs) (suc k) d = region_at xs k d

in_order : (es : List Extent) (top : ℕ) (rows : List Row) → ArePlaced rows es top → AreInOrder (regions_of rows)
in_order es top rows l = (
  All-map HasParts (λ (x : Row). x.region) rows (All-weaker (IsPlaced es top) (λ (x : Row). HasParts x.region) (λ x h. h.proper) rows l.laid),
  λ i j d h k.
      let e : Row = record { region = d; height = 0 } in
      rw (region_at rows i e, region_at rows j e) (l.order i j e h (omega (arith, k, size rows))).may,
)
  where
    size : (xs : List Row) → length (regions_of xs) ≡ length xs
    size [] = refl
    size (x ∷ xs) = ap suc (size xs)

no_break : (rs : List Region) (r : Region) (depth : ℕ) → All (λ (x : Region). is_misplaced x r ≡ false) rs → r.handler_from ≡ handler_start rs r → depth ≤ 1000 → HasParts r → breaks_nesting rs r depth ≡ false
no_break rs r depth all start low p =
    rw (list_any_none (λ (x : Region). is_misplaced x r) rs all, eq-eqb r.handler_from (handler_start rs r) start, ltb_not 1000 depth low, ltb_of r.try_from r.try_to p.has_try, ltb_of r.handler_from r.handler_to p.has_handler) refl

stand : (rs : List Region) → AreInOrder rs → ((k : ℕ) → slice_index (depths_of rs) k ≤ 1000) → ((k : ℕ) (d : Region) → k < length rs → (get_or rs k d).handler_from ≡ handler_start (take k rs) (get_or rs k d)) → StandInOrder rs
stand rs order low starts = record {
  order = order;
  nested = λ k d h.
      let proper : HasParts (get_or rs k d) = All-get_or HasParts rs k d h order.0 in
      no_break (take k rs) (get_or rs k d) (slice_index (depths_of rs) k)
      (All-from_get_or (λ (x : Region). is_misplaced x (get_or rs k d) ≡ false) (take k rs) d (λ i less.
      let small : i < k = omega (arith, less, length-take-le k rs (omega (arith, h))) in
      rw (get_or-take k rs i d small) (well_placed (get_or rs i d) (get_or rs k d) (All-get_or HasParts rs i d (omega (arith, small, h)) order.0) proper (order.1 i k d small h))))
      (starts k d h) (low k) proper;
}

pub all_stand : (rs : List Region) (es : List Extent) (top count : ℕ) → length rs ≤ count → StandSoFar rs count es top → StandInOrder rs
all_stand rs es top count past s =
    let are : regions_of s.rows ≡ rs = s.are ∙ take_all count rs past in
    stand rs (subst AreInOrder are (in_order es top s.rows s.laid))
    (subst (λ (l : List Region). (k : ℕ) → slice_index (depths_of l) k ≤ 1000) are (λ k. depth_at s.rows k (steep_of es top s.rows s.laid.order s.laid.laid)))
    (λ k d h. s.starts k d (omega (arith, h, past)))

pub none_so_far : (rs : List Region) (es : List Extent) → StandSoFar rs 0 es 0
none_so_far rs es = record {
  rows = [];
  are = refl;
  laid = record {
    within = omega arith;
    order = λ i j d h k. absurd (omega (arith, k));
    laid = All-nil (IsPlaced es 0);
    some = λ k d h. absurd (omega (arith, h));
    rising = λ j k d h m. absurd (omega (arith, m));
    last = λ k d s h. absurd (omega (arith, h));
  };
  starts = λ k d h. absurd (omega (arith, h));
}

pub one_more : (rs : List Region) (k top next : ℕ) (old new : List Extent) (d : Region) → k < length rs → PlacesRow (get_or rs k d) old new top next → StandSoFar rs k old top → StandSoFar rs (k + 1) new next
one_more rs k top next old new d h adds s =
    let g : GoesOn s.rows (get_or rs k d) new next = adds s.rows s.laid in
    record {
      rows = s.rows ++ record { region = get_or rs k d; height = g.height } ∷ [];
      are = regions_more s.rows (record { region = get_or rs k d; height = g.height }) ∙ (ap (λ (l : List Region). l ++ get_or rs k d ∷ []) s.are ∙ sym (take_more rs k d h));
      laid = g.laid;
      starts = λ j c less. go j c less (eqb j k) refl (g.start ∙ ap (λ (l : List Region). handler_start l (get_or rs k d)) s.are);
    }
  where
    go : (j : ℕ) (c : Region) → j < k + 1 → (b : Bool) → eqb j k ≡ b → (get_or rs k d).handler_from ≡ handler_start (take k rs) (get_or rs k d) → (get_or rs j c).handler_from ≡ handler_start (take j rs) (get_or rs j c)
    go j c less true e here = rw (eqb-true j k e, get_or_default rs k c d h) here
    go j c less false e here = s.starts j c (omega (arith, less, eqb-false j k e))
