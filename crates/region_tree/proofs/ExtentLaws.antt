-- One more row behind those of a table that stand in order.
use Rattle.std.proofs.Common.{◌≡◌, ◌+◌, ◌-◌, ◌≤◌, ◌<◌, ℕ, Bool, true, false, cond, ◌||◌, ◌&&◌, List, [], ◌∷◌, ◌++◌, ◌⊎◌, inl, inr, All, length, get_or, set, filter, map, refl, sym, ap, subst, ◌∙◌, arith, eqb, leb, eq-eqb}
use Rattle.std.proofs.lemmas.Bool.{eqb-true, eqb-false, leb-true, leb-false}
use Rattle.std.specs.Prelude.{max}
use Rattle.std.proofs.lemmas.List.{get_or_default, get_or-set_other, get_or-set_same, length-set}
use Rattle.std.proofs.lemmas.List.Elements.{All-get_or, All-head, All-push, All-tail, All-weaker}
use Rattle.std.proofs.lemmas.List.Quantifiers.{all_pairs_push}
use Rattle.cil_base.proofs.Small.{and_both, never_true}
use Rattle.cil_model.specs.declared.body.Region.{Region}
use Rattle.region_tree.specs.declared.order.Extent.{Extent}
use Rattle.region_tree.specs.declared.order.Taken.{Taken}
use Rattle.region_tree.specs.Nesting.{handler_start, have_same_try, is_nested, last_place, lies_in}
use Rattle.region_tree.specs.Order.{AreWithin, HasParts, StandsBefore}
use Rattle.region_tree.specs.Extents.{PlacesRow, ArePlaced, GoesOn, IsPlaced, LiesIn, Precedes, Row, Takes, regions_of}

-- ---- tries

pub same_tries : (r s : Region) → have_same_try r s ≡ true → (r.try_from ≡ s.try_from) × (r.try_to ≡ s.try_to)
same_tries r s e =
    let two = and_both (eqb r.try_from s.try_from) (eqb r.try_to s.try_to) e in
    (eqb-true r.try_from s.try_from two.0, eqb-true r.try_to s.try_to two.1)

pub one_try : (r s : Region) → r.try_from ≡ s.try_from → r.try_to ≡ s.try_to → have_same_try r s ≡ true
one_try r s x y = rw (eq-eqb r.try_from s.try_from x, eq-eqb r.try_to s.try_to y) refl

last_more : (rs : List Region) (x s : Region) (q : ℕ) → last_place q (map (λ (r : Region). r.handler_to) (filter (λ (r : Region). have_same_try r s) (rs ++ x ∷ []))) ≡ cond (have_same_try x s) x.handler_to (last_place q (map (λ (r : Region). r.handler_to) (filter (λ (r : Region). have_same_try r s) rs)))
last_more [] x s q = go (have_same_try x s)
  where
    go : (b : Bool) → last_place q (map (λ (r : Region). r.handler_to) (cond b (x ∷ []) [])) ≡ cond b x.handler_to q
    go true = refl
    go false = refl
last_more (r ∷ rs) x s q = go (have_same_try r s) (last_more rs x s r.handler_to) (last_more rs x s q)
  where
    go : (b : Bool) → last_place r.handler_to (map (λ (t : Region). t.handler_to) (filter (λ (t : Region). have_same_try t s) (rs ++ x ∷ []))) ≡ cond (have_same_try x s) x.handler_to (last_place r.handler_to (map (λ (t : Region). t.handler_to) (filter (λ (t : Region). have_same_try t s) rs)))
        → last_place q (map (λ (t : Region). t.handler_to) (filter (λ (t : Region). have_same_try t s) (rs ++ x ∷ []))) ≡ cond (have_same_try x s) x.handler_to (last_place q (map (λ (t : Region). t.handler_to) (filter (λ (t : Region). have_same_try t s) rs)))
        → last_place q (map (λ (t : Region). t.handler_to) (cond b (r ∷ filter (λ (t : Region). have_same_try t s) (rs ++ x ∷ [])) (filter (λ (t : Region). have_same_try t s) (rs ++ x ∷ [])))) ≡ cond (have_same_try x s) x.handler_to (last_place q (map (λ (t : Region). t.handler_to) (cond b (r ∷ filter (λ (t : Region). have_same_try t s) rs) (filter (λ (t : Region). have_same_try t s) rs))))
    go true a b = a
    go false a b = b

pub regions_more : (rows : List Row) (x : Row) → regions_of (rows ++ x ∷ []) ≡ regions_of rows ++ x.region ∷ []
regions_more [] x = refl
regions_more (y ∷ ys) x = ap (λ (l : List Region). y.region ∷ l) (regions_more ys x)

start_more : (rows : List Row) (x : Row) (s : Region) → handler_start (regions_of (rows ++ x ∷ [])) s ≡ cond (have_same_try x.region s) x.region.handler_to (handler_start (regions_of rows) s)
start_more rows x s = ap (λ (l : List Region). handler_start l s) (regions_more rows x) ∙ last_more (regions_of rows) x.region s s.try_to

no_start : (rows : List Row) (s : Region) → All (λ (x : Row). have_same_try x.region s ≡ false) rows → handler_start (regions_of rows) s ≡ s.try_to
no_start [] s all = refl
no_start (x ∷ xs) s all =
    let here : have_same_try x.region s ≡ false = All-head (λ (y : Row). have_same_try y.region s ≡ false) x xs all in
    rw here (no_start xs s (All-tail (λ (y : Row). have_same_try y.region s ≡ false) x xs all))

-- ---- nesting

lies_true : (a b c d : ℕ) → lies_in a b c d ≡ true → (c ≤ a) × (b ≤ d)
lies_true a b c d e =
    let two = and_both (leb c a) (leb b d) e in
    (leb-true c a two.0, leb-true b d two.1)

both_lie : (r : Region) (c d : ℕ) → (lies_in r.try_from r.try_to c d && lies_in r.handler_from r.handler_to c d) ≡ true → AreWithin r c d
both_lie r c d e =
    let two = and_both (lies_in r.try_from r.try_to c d) (lies_in r.handler_from r.handler_to c d) e in
    let x = lies_true r.try_from r.try_to c d two.0 in
    let y = lies_true r.handler_from r.handler_to c d two.1 in
    record { try_from = x.0; try_to = x.1; handler_from = y.0; handler_to = y.1 }

pub nested_within : (r s : Region) → is_nested r s ≡ true → AreWithin r s.try_from s.try_to ⊎ AreWithin r s.handler_from s.handler_to
nested_within r s e = go (lies_in r.try_from r.try_to s.try_from s.try_to && lies_in r.handler_from r.handler_to s.try_from s.try_to) refl e
  where
    go : (b : Bool) → (lies_in r.try_from r.try_to s.try_from s.try_to && lies_in r.handler_from r.handler_to s.try_from s.try_to) ≡ b → (b || (lies_in r.try_from r.try_to s.handler_from s.handler_to && lies_in r.handler_from r.handler_to s.handler_from s.handler_to)) ≡ true → AreWithin r s.try_from s.try_to ⊎ AreWithin r s.handler_from s.handler_to
    go true x e = inl (both_lie r s.try_from s.try_to x)
    go false x e = inr (both_lie r s.handler_from s.handler_to e)

-- ---- how a row lies to the next one

abbrev row : Region → ℕ → Row
row r height = record { region = r; height = height }

in_front : (x : Row) (r : Region) (height : ℕ) → HasParts x.region → HasParts r → x.region.handler_to ≤ r.try_from → Precedes x (row r height)
in_front x r height p q h = record {
  may = StandsBefore.apart (record { tries = inl (omega (arith, h, p.is_behind, p.has_handler)); try_handler = inl (omega (arith, h, p.is_behind, p.has_handler, q.has_try, q.is_behind)); handler_try = inl h; handlers = inl (omega (arith, h, q.has_try, q.is_behind)) });
  lower = λ e. elim (nested_within x.region r e) [
    | inl w ↦ absurd (omega (arith, w.try_from, h, p.has_try, p.is_behind, p.has_handler))
    | inr w ↦ absurd (omega (arith, w.try_from, h, p.has_try, p.is_behind, p.has_handler, q.has_try, q.is_behind))
  ];
}

inside_try : (x : Row) (r : Region) (height : ℕ) → HasParts x.region → r.try_from ≤ x.region.try_from → x.region.handler_to ≤ r.try_to → x.height < height → Precedes x (row r height)
inside_try x r height p h k less = record {
  may = StandsBefore.in_try (record { try_from = h; try_to = omega (arith, k, p.is_behind, p.has_handler); handler_from = omega (arith, h, p.has_try, p.is_behind); handler_to = k });
  lower = λ e. less;
}

inside_handler : (x : Row) (r : Region) (height : ℕ) → HasParts x.region → r.handler_from ≤ x.region.try_from → x.region.handler_to ≤ r.handler_to → x.height < height → Precedes x (row r height)
inside_handler x r height p h k less = record {
  may = StandsBefore.in_handler (record { try_from = h; try_to = omega (arith, k, p.is_behind, p.has_handler); handler_from = omega (arith, h, p.has_try, p.is_behind); handler_to = k });
  lower = λ e. less;
}

another_handler : (x : Row) (r : Region) (height : ℕ) → HasParts x.region → HasParts r → x.region.try_from ≡ r.try_from → x.region.try_to ≡ r.try_to → x.region.handler_to ≤ r.handler_from → Precedes x (row r height)
another_handler x r height p q a b h = record {
  may = StandsBefore.one_try a b (inl h);
  lower = λ e. elim (nested_within x.region r e) [
    | inl w ↦ absurd (omega (arith, w.handler_to, b, p.is_behind, p.has_handler))
    | inr w ↦ absurd (omega (arith, w.try_from, a, q.has_try, q.is_behind))
  ];
}

between : (x : Row) (r : Region) (height : ℕ) → HasParts x.region → HasParts r → r.try_to ≤ x.region.try_from → x.region.handler_to ≤ r.handler_from → Precedes x (row r height)
between x r height p q h k = record {
  may = StandsBefore.apart (record { tries = inr h; try_handler = inl (omega (arith, k, p.is_behind, p.has_handler)); handler_try = inr (omega (arith, h, p.has_try, p.is_behind)); handlers = inl k });
  lower = λ e. elim (nested_within x.region r e) [
    | inl w ↦ absurd (omega (arith, w.try_to, h, p.has_try))
    | inr w ↦ absurd (omega (arith, w.handler_from, k, p.has_handler))
  ];
}

-- ---- the next row

-- a row of the blocks that the next row takes in
pub record Beside (e : Extent) (x y : Row) : Type 0 where
  pub precedes : Precedes x y
  pub lies : LiesIn e x
  pub low : x.height ≤ e.height

-- The next row makes one block of the last ones.
pub record Joins (rows : List Row) (r : Region) (height : ℕ) (es : List Extent) (top keep : ℕ) (e : Extent) : Type 0 where
  pub proper : HasParts r
  pub some : 0 < height
  pub few : height ≤ 1000
  pub kept : keep ≤ top
  pub there : keep < length es
  pub from : e.from ≡ r.try_from
  pub to : e.to ≡ r.try_to
  pub end : e.end ≡ r.handler_to
  pub low : height ≤ e.height
  pub below : (k : ℕ) (d : Extent) → k < keep → (get_or es k d).end ≤ r.try_from
  pub beside : (x : Row) (k : ℕ) → keep ≤ k → k < top → HasParts x.region → x.height ≤ (get_or es k e).height → LiesIn (get_or es k e) x → Beside e x (row r height)
  pub start : r.handler_from ≡ handler_start (regions_of rows) r

lies_whole : (e : Extent) (x : Row) → HasParts x.region → e.from < e.to → e.to < e.end → LiesIn e x → (e.from ≤ x.region.try_from) × (x.region.handler_to ≤ e.end)
lies_whole e x p h k (LiesIn.in_try a b c) = (a, omega (arith, b, k))
lies_whole e x p h k (LiesIn.own a b c) = (omega (arith, a), c)
lies_whole e x p h k (LiesIn.in_handler a b) = (omega (arith, a, h), b)

same_extent : (es : List Extent) (keep k : ℕ) (e d : Extent) → k < keep → get_or (set es keep e) k d ≡ get_or es k d
same_extent es keep k e d h = get_or-set_other es keep k e d (omega (arith, h))

pub goes_on : (rows : List Row) (r : Region) (height : ℕ) (es : List Extent) (top keep : ℕ) (e : Extent) → ArePlaced rows es top → Joins rows r height es top keep e → GoesOn rows r (set es keep e) (keep + 1)
goes_on rows r height es top keep e l j = record {
  height = height;
  start = j.start;
  laid = record {
    within = omega (arith, j.there, length-set es keep e);
    order = all_pairs_push Precedes rows (row r height) l.order (λ k d h. precedes (get_or rows k d) (All-get_or (IsPlaced es top) rows k d h l.laid));
    laid = All-push (IsPlaced (set es keep e) (keep + 1)) rows (row r height) (All-weaker (IsPlaced es top) (IsPlaced (set es keep e) (keep + 1)) still rows l.laid) own;
    some = λ k d h. some k d h (eqb k keep) refl;
    rising = λ i k d h m. rising i k d h m (eqb k keep) refl;
    last = λ k d s h a b. last k d s h a b (eqb k keep) refl;
  };
}
  where
    new : List Extent
    new = set es keep e

    at_keep : (d : Extent) → get_or new keep d ≡ e
    at_keep d = get_or-set_same es keep e d j.there

    in_old : (x : Row) (h : IsPlaced es top x) → (get_or es h.at e).from ≤ x.region.try_from × x.region.handler_to ≤ (get_or es h.at e).end
    in_old x h =
        let s = l.some h.at e h.there in
        lies_whole (get_or es h.at e) x h.proper s.0 s.1 (h.lies e)

    precedes : (x : Row) → IsPlaced es top x → Precedes x (row r height)
    precedes x h = go (leb keep h.at) refl
      where
        go : (b : Bool) → leb keep h.at ≡ b → Precedes x (row r height)
        go true s = (j.beside x h.at (leb-true keep h.at s) h.there h.proper (h.low e) (h.lies e)).precedes
        go false s = in_front x r height h.proper j.proper (omega (arith, (in_old x h).1, j.below h.at e (leb-false keep h.at s)))

    still : (x : Row) → IsPlaced es top x → IsPlaced new (keep + 1) x
    still x h = go (leb keep h.at) refl
      where
        go : (b : Bool) → leb keep h.at ≡ b → IsPlaced new (keep + 1) x
        go true s =
            let b : Beside e x (row r height) = j.beside x h.at (leb-true keep h.at s) h.there h.proper (h.low e) (h.lies e) in
            record { proper = h.proper; some = h.some; few = h.few; at = keep; there = omega arith; low = λ d. rw (at_keep d) b.low; lies = λ d. rw (at_keep d) b.lies }
        go false s =
            let less : h.at < keep = leb-false keep h.at s in
            record { proper = h.proper; some = h.some; few = h.few; at = h.at; there = omega (arith, less); low = λ d. rw (same_extent es keep h.at e d less) (h.low d); lies = λ d. rw (same_extent es keep h.at e d less) (h.lies d) }

    own : IsPlaced new (keep + 1) (row r height)
    own = record {
      proper = j.proper;
      some = j.some;
      few = j.few;
      at = keep;
      there = omega arith;
      low = λ d. rw (at_keep d) j.low;
      lies = λ d. rw (at_keep d) (LiesIn.own (sym j.from) (sym j.to) (omega (arith, j.end)));
    }

    some : (k : ℕ) (d : Extent) → k < keep + 1 → (b : Bool) → eqb k keep ≡ b → ((get_or new k d).from < (get_or new k d).to) × ((get_or new k d).to < (get_or new k d).end)
    some k d h true s = rw (eqb-true k keep s, at_keep d) (omega (arith, j.from, j.to, j.proper.has_try), omega (arith, j.to, j.end, j.proper.is_behind, j.proper.has_handler))
    some k d h false s =
        let less : k < keep = omega (arith, h, eqb-false k keep s) in
        rw (same_extent es keep k e d less) (l.some k d (omega (arith, less, j.kept)))

    rising : (i k : ℕ) (d : Extent) → i < k → k < keep + 1 → (b : Bool) → eqb k keep ≡ b → (get_or new i d).end ≤ (get_or new k d).from
    rising i k d h m true s =
        let less : i < keep = omega (arith, h, m) in
        rw (eqb-true k keep s, at_keep d, same_extent es keep i e d less) (omega (arith, j.below i d less, j.from))
    rising i k d h m false s =
        let less : k < keep = omega (arith, m, eqb-false k keep s) in
        rw (same_extent es keep k e d less, same_extent es keep i e d (omega (arith, h, less))) (l.rising i k d h (omega (arith, less, j.kept)))

    last : (k : ℕ) (d : Extent) (s : Region) → k < keep + 1 → s.try_from ≡ (get_or new k d).from → s.try_to ≡ (get_or new k d).to → (b : Bool) → eqb k keep ≡ b → handler_start (regions_of (rows ++ row r height ∷ [])) s ≡ (get_or new k d).end
    last k d s h a b true t =
        let here : get_or new k d ≡ e = ap (λ (i : ℕ). get_or new i d) (eqb-true k keep t) ∙ at_keep d in
        let from : r.try_from ≡ s.try_from = sym j.from ∙ sym (a ∙ ap (λ (x : Extent). x.from) here) in
        let to : r.try_to ≡ s.try_to = sym j.to ∙ sym (b ∙ ap (λ (x : Extent). x.to) here) in
        start_more rows (row r height) s
        ∙ ap (λ (x : Bool). cond x r.handler_to (handler_start (regions_of rows) s)) (one_try r s from to)
        ∙ sym (ap (λ (x : Extent). x.end) here ∙ j.end)
    last k d s h a b false t =
        let less : k < keep = omega (arith, h, eqb-false k keep t) in
        let same : get_or new k d ≡ get_or es k d = same_extent es keep k e d less in
        let size = l.some k d (omega (arith, less, j.kept)) in
        let other : have_same_try r s ≡ false = never_true (have_same_try r s) (λ x. absurd (omega (arith, (same_tries r s x).0, a, ap (λ (y : Extent). y.from) same, size.0, size.1, j.below k d less))) in
        start_more rows (row r height) s
        ∙ ap (λ (x : Bool). cond x r.handler_to (handler_start (regions_of rows) s)) other
        ∙ l.last k d s (omega (arith, less, j.kept)) (a ∙ ap (λ (x : Extent). x.from) same) (b ∙ ap (λ (x : Extent). x.to) same)
        ∙ sym (ap (λ (x : Extent). x.end) same)

-- ---- the blocks that are left, and those that are taken

all_left : (rows : List Row) (es : List Extent) (top low from to : ℕ) (t : Taken) → ArePlaced rows es top → low ≤ top → Takes es low from to t → (k : ℕ) (d : Extent) → k < t.top → (get_or es k d).end ≤ from
all_left rows es top low from to t l h x k d less = go (eqb k (t.top - 1)) refl
  where
    go : (b : Bool) → eqb k (t.top - 1) ≡ b → (get_or es k d).end ≤ from
    go true s = rw (eqb-true k (t.top - 1) s) (x.left d (omega (arith, less)))
    go false s =
        let behind : k < t.top - 1 = omega (arith, less, eqb-false k (t.top - 1) s) in
        let small : t.top - 1 < top = omega (arith, less, x.fewer, h) in
        let size = l.some (t.top - 1) d small in
        omega (arith, l.rising k (t.top - 1) d behind small, size.0, size.1, x.left d (omega (arith, less)))

-- where a row lies that is in a block which was taken
taken_in : (rows : List Row) (es : List Extent) (top low from to : ℕ) (t : Taken) (x : Row) (k : ℕ) (d : Extent) → ArePlaced rows es top → low ≤ top → Takes es low from to t → t.top ≤ k → k < low → HasParts x.region → x.height ≤ (get_or es k d).height → LiesIn (get_or es k d) x → (from ≤ x.region.try_from) × ((x.region.handler_to ≤ to) × (x.height ≤ t.height))
taken_in rows es top low from to t x k d l h y a b p high lies =
    let size = l.some k d (omega (arith, b, h)) in
    let whole = lies_whole (get_or es k d) x p size.0 size.1 lies in
    (omega (arith, y.begins k d a b, whole.0), (omega (arith, y.ends k d a b, whole.1), omega (arith, y.high k d a b, high)))

in_own : (rows : List Row) (r : Region) (height : ℕ) (es : List Extent) (top : ℕ) (own : Taken) (e : Extent) → ArePlaced rows es top → Takes es top r.handler_from r.handler_to own → HasParts r → own.height < height → e.to ≡ r.try_to → e.end ≡ r.handler_to → height ≤ e.height → (x : Row) (k : ℕ) → own.top ≤ k → k < top → HasParts x.region → x.height ≤ (get_or es k e).height → LiesIn (get_or es k e) x → Beside e x (row r height)
in_own rows r height es top own e l y q less to end low x k a b p high lies =
    let in_it = taken_in rows es top top r.handler_from r.handler_to own x k e l (omega arith) y a b p high lies in
    record {
      precedes = inside_handler x r height p in_it.0 in_it.1.0 (omega (arith, in_it.1.1, less));
      lies = LiesIn.in_handler (omega (arith, in_it.0, to, q.is_behind)) (omega (arith, in_it.1.0, end));
      low = omega (arith, in_it.1.1, less, low);
    }

-- ---- the first handler of a try

abbrev pub begun : Region → Taken → Taken → Extent
begun r own inner = record { from = r.try_from; to = r.try_to; end = r.handler_to; inner = inner.height; height = max own.height inner.height + 1 }

pub begins_block : (r : Region) (es : List Extent) (top : ℕ) (own inner : Taken) → top < length es → HasParts r → r.handler_from ≡ r.try_to → Takes es top r.handler_from r.handler_to own → Takes es own.top r.try_from r.try_to inner → max own.height inner.height < 1000 → PlacesRow r es (set es inner.top (begun r own inner)) top (inner.top + 1)
begins_block r es top own inner small q first y z few rows l =
    goes_on rows r (max own.height inner.height + 1) es top inner.top e l (record {
      proper = q;
      some = omega arith;
      few = omega (arith, few);
      kept = omega (arith, y.fewer, z.fewer);
      there = omega (arith, y.fewer, z.fewer, small);
      from = refl;
      to = refl;
      end = refl;
      low = omega arith;
      below = below;
      beside = λ x k a b p high lies. beside x k a b p high lies (leb own.top k) refl;
      start = first ∙ sym (no_start rows r (All-weaker (IsPlaced es top) (λ (x : Row). have_same_try x.region r ≡ false) other rows l.laid));
    })
  where
    e : Extent
    e = begun r own inner

    below : (k : ℕ) (d : Extent) → k < inner.top → (get_or es k d).end ≤ r.try_from
    below = all_left rows es top own.top r.try_from r.try_to inner l y.fewer z

    beside : (x : Row) (k : ℕ) → inner.top ≤ k → k < top → HasParts x.region → x.height ≤ (get_or es k e).height → LiesIn (get_or es k e) x → (b : Bool) → leb own.top k ≡ b → Beside e x (row r (max own.height inner.height + 1))
    beside x k a b p high lies true s = in_own rows r (max own.height inner.height + 1) es top own e l y q (omega arith) refl refl (omega arith) x k (leb-true own.top k s) b p high lies
    beside x k a b p high lies false s =
        let in_it = taken_in rows es top own.top r.try_from r.try_to inner x k e l y.fewer z a (leb-false own.top k s) p high lies in
        record {
          precedes = inside_try x r (max own.height inner.height + 1) p in_it.0 in_it.1.0 (omega (arith, in_it.1.1));
          lies = LiesIn.in_try in_it.0 in_it.1.0 in_it.1.1;
          low = omega (arith, in_it.1.1);
        }

    other : (x : Row) → IsPlaced es top x → have_same_try x.region r ≡ false
    other x h = never_true (have_same_try x.region r) (λ s. go s (leb own.top h.at) refl (leb inner.top h.at) refl)
      where
        go : have_same_try x.region r ≡ true → (a : Bool) → leb own.top h.at ≡ a → (b : Bool) → leb inner.top h.at ≡ b → ⊥
        go s true u b v =
            let in_it = taken_in rows es top top r.handler_from r.handler_to own x h.at e l (omega arith) y (leb-true own.top h.at u) h.there h.proper (h.low e) (h.lies e) in
            omega (arith, in_it.0, (same_tries x.region r s).0, q.has_try, q.is_behind)
        go s false u true v =
            let in_it = taken_in rows es top own.top r.try_from r.try_to inner x h.at e l y.fewer z (leb-true inner.top h.at v) (leb-false own.top h.at u) h.proper (h.low e) (h.lies e) in
            omega (arith, in_it.1.0, (same_tries x.region r s).1, h.proper.is_behind, h.proper.has_handler)
        go s false u false v =
            let size = l.some h.at e h.there in
            let whole = lies_whole (get_or es h.at e) x h.proper size.0 size.1 (h.lies e) in
            omega (arith, whole.1, below h.at e (leb-false inner.top h.at v), (same_tries x.region r s).0, h.proper.has_try, h.proper.is_behind, h.proper.has_handler)

-- ---- another handler of a try

abbrev pub extended : Region → Taken → Extent → Extent
extended r own last = record { from = last.from; to = last.to; end = r.handler_to; inner = last.inner; height = max last.height (max own.height last.inner + 1) }

pub extends_block : (r : Region) (es : List Extent) (top : ℕ) (own : Taken) (d : Extent) → top < length es → HasParts r → 0 < own.top → Takes es top r.handler_from r.handler_to own → (get_or es (own.top - 1) d).from ≡ r.try_from → (get_or es (own.top - 1) d).to ≡ r.try_to → (get_or es (own.top - 1) d).end ≡ r.handler_from → max own.height (get_or es (own.top - 1) d).inner < 1000 → PlacesRow r es (set es (own.top - 1) (extended r own (get_or es (own.top - 1) d))) top own.top
extends_block r es top own d small q some y from to end few rows l =
    let one : own.top - 1 + 1 ≡ own.top = omega (arith, some) in
    subst (λ (n : ℕ). GoesOn rows r (set es keep e) n) one (goes_on rows r height es top keep e l (record {
      proper = q;
      some = omega arith;
      few = omega (arith, few);
      kept = omega (arith, less);
      there = omega (arith, less, small);
      from = from;
      to = to;
      end = refl;
      low = omega arith;
      below = λ k c h. omega (arith, l.rising k keep c h less, ap (λ (x : Extent). x.from) (get_or_default es keep c d (omega (arith, less, small))), from);
      beside = λ x k a b p high lies. beside x k a b p high lies (leb own.top k) refl;
      start = sym (l.last keep d r less (sym from) (sym to) ∙ end);
    }))
  where
    keep : ℕ
    keep = own.top - 1

    less : own.top - 1 < top
    less = omega (arith, some, y.fewer)

    old : Extent
    old = get_or es (own.top - 1) d

    height : ℕ
    height = max own.height (get_or es (own.top - 1) d).inner + 1

    e : Extent
    e = extended r own (get_or es (own.top - 1) d)

    in_last : (x : Row) → HasParts x.region → x.height ≤ old.height → LiesIn old x → Beside e x (row r height)
    in_last x p high (LiesIn.in_try a b c) = record {
      precedes = inside_try x r height p (omega (arith, a, from)) (omega (arith, b, to)) (omega (arith, c));
      lies = LiesIn.in_try a b c;
      low = omega (arith, high);
    }
    in_last x p high (LiesIn.own a b c) = record {
      precedes = another_handler x r height p q (a ∙ from) (b ∙ to) (omega (arith, c, end));
      lies = LiesIn.own a b (omega (arith, c, end, q.has_handler));
      low = omega (arith, high);
    }
    in_last x p high (LiesIn.in_handler a b) = record {
      precedes = between x r height p q (omega (arith, a, to)) (omega (arith, b, end));
      lies = LiesIn.in_handler a (omega (arith, b, end, q.has_handler));
      low = omega (arith, high);
    }

    beside : (x : Row) (k : ℕ) → keep ≤ k → k < top → HasParts x.region → x.height ≤ (get_or es k e).height → LiesIn (get_or es k e) x → (b : Bool) → leb own.top k ≡ b → Beside e x (row r height)
    beside x k a b p high lies true s = in_own rows r height es top own e l y q (omega arith) to refl (omega arith) x k (leb-true own.top k s) b p high lies
    beside x k a b p high lies false s =
        let here : k ≡ own.top - 1 = omega (arith, a, leb-false own.top k s) in
        let same : get_or es k e ≡ old = ap (λ (i : ℕ). get_or es i e) here ∙ get_or_default es (own.top - 1) e d (omega (arith, less, small)) in
        in_last x p (subst (λ (z : Extent). x.height ≤ z.height) same high) (subst (λ (z : Extent). LiesIn z x) same lies)

-- ---- by the numbers that the code computes

pub begins_with : (r : Region) (es : List Extent) (top : ℕ) (own inner : Taken) (below : ℕ) → below ≡ max own.height inner.height → top < length es → HasParts r → r.handler_from ≡ r.try_to → Takes es top r.handler_from r.handler_to own → Takes es own.top r.try_from r.try_to inner → below < 1000 → PlacesRow r es (set es inner.top (record { from = r.try_from; to = r.try_to; end = r.handler_to; inner = inner.height; height = below + 1 })) top (inner.top + 1)
begins_with r es top own inner below e small q first y z few =
    subst (λ (n : ℕ). PlacesRow r es (set es inner.top (record { from = r.try_from; to = r.try_to; end = r.handler_to; inner = inner.height; height = n + 1 })) top (inner.top + 1)) (sym e)
    (begins_block r es top own inner small q first y z (omega (arith, e, few)))

pub extends_with : (r : Region) (es : List Extent) (top : ℕ) (own : Taken) (d : Extent) (below height : ℕ) → below ≡ max own.height (get_or es (own.top - 1) d).inner → height ≡ max (get_or es (own.top - 1) d).height (below + 1) → top < length es → HasParts r → 0 < own.top → Takes es top r.handler_from r.handler_to own → (get_or es (own.top - 1) d).from ≡ r.try_from → (get_or es (own.top - 1) d).to ≡ r.try_to → (get_or es (own.top - 1) d).end ≡ r.handler_from → below < 1000 → PlacesRow r es (set es (own.top - 1) (record { from = (get_or es (own.top - 1) d).from; to = (get_or es (own.top - 1) d).to; end = r.handler_to; inner = (get_or es (own.top - 1) d).inner; height = height })) top own.top
extends_with r es top own d below height e f small q some y from to end few =
    subst (λ (n : ℕ). PlacesRow r es (set es (own.top - 1) (record { from = (get_or es (own.top - 1) d).from; to = (get_or es (own.top - 1) d).to; end = r.handler_to; inner = (get_or es (own.top - 1) d).inner; height = n })) top own.top) (sym (f ∙ ap (λ (n : ℕ). max (get_or es (own.top - 1) d).height (n + 1)) e))
    (extends_block r es top own d small q some y from to end (omega (arith, e, few)))
