-- What the rows of a table have that breaks no rule on nesting.
use Rattle.std.proofs.Common.{◌≡◌, ◌+◌, ◌≤◌, ◌<◌, ℕ, zero, suc, Bool, true, false, not, ◌||◌, List, [], ◌∷◌, ◌++◌, All, length, take, get_or, filter, map, refl, subst, inl, inr, arith}
use Rattle.std.specs.Prelude.{◌==◌, nat_lt, slice_index, MatchOption, None, Option}
use Rattle.std.specs.List.{list_any, enumerate_from}
use Rattle.std.proofs.lemmas.Bool.{and_parts, eqb-true, false_from_ne_true, ltb-true, not-false, or_parts}
use Rattle.std.proofs.lemmas.List.Elements.{All-cons, All-filter, All-head, All-map, All-nil, All-tail, filter_passes}
use Rattle.cil_base.specs.declared.refusal.Place.{Place}
use Rattle.cil_base.specs.declared.refusal.Refusal.{Refusal}
use Rattle.cil_base.specs.Refusals.{Fails, First, NoneBroken, Test}
use Rattle.cil_model.specs.declared.body.Body.{Body}
use Rattle.cil_model.specs.declared.body.Region.{Region}
use Rattle.cil_model.specs.ValidBody.{AllValidRegions}
use Rattle.region_tree.specs.Nesting.{breaks_nesting, depths_of, handler_start, has_parts, have_same_try, is_misplaced, last_place}
use Rattle.region_tree.specs.Rules.{BreaksControl, edge_test, end_test, filter_test, nesting_test}
use Rattle.block_laws.specs.Blocks.{HasParts}
use Rattle.tree_building.specs.Building.{Fits, Has, NestWell}
use Rattle.tree_building.proofs.OrderLaws.{all_has, all_of}

none_of : {X : Type 0} (p : X → Bool) (xs : List X) → list_any p xs ≡ false → All (λ x. p x ≡ false) xs
none_of {X} p [] e = All-nil (λ x. p x ≡ false)
none_of {X} p (x ∷ xs) e =
    let two = or_parts (p x) (list_any p xs) e in
    All-cons (λ y. p y ≡ false) x xs two.0 (none_of p xs two.1)

last_least : (q p : ℕ) (xs : List ℕ) → q ≤ p → All (λ x. q ≤ x) xs → q ≤ last_place p xs
last_least q p [] h all = h
last_least q p (x ∷ xs) h all = last_least q x xs (All-head (λ y. q ≤ y) x xs all) (All-tail (λ y. q ≤ y) x xs all)

behind_try : (rows : List Region) (r : Region) → All HasParts rows → r.try_to ≤ handler_start rows r
behind_try rows r parts =
    let test : Region → Bool = λ d. have_same_try d r in
    last_least r.try_to r.try_to (map (λ (d : Region). d.handler_to) (filter test rows)) (omega arith)
    (All-map (λ (x : ℕ). r.try_to ≤ x) (λ (d : Region). d.handler_to) (filter test rows)
    (all_of (λ (d : Region). r.try_to ≤ d.handler_to) (filter test rows) (λ d h.
    let p : HasParts d = all_has HasParts (All-filter test HasParts rows parts) h in
    let same : test d ≡ true = all_has (λ (x : Region). test x ≡ true) (filter_passes test rows) h in
    let to : d.try_to ≡ r.try_to = eqb-true d.try_to r.try_to (and_parts (d.try_from == r.try_from) (d.try_to == r.try_to) same).1 in
    omega (arith, p.is_behind, p.has_handler, to))))

pub fits : (all rows : List Region) (end depth : ℕ) (r : Region) → breaks_nesting rows r depth ≡ false → All HasParts rows → r.handler_to ≤ end → Has all r → Fits all rows end r
fits all rows end depth r e parts ends listed =
    let a = or_parts (list_any (λ (d : Region). is_misplaced d r) rows) (not (r.handler_from == handler_start rows r) || (nat_lt 1000 depth || not (has_parts r))) e in
    let b = or_parts (not (r.handler_from == handler_start rows r)) (nat_lt 1000 depth || not (has_parts r)) a.1 in
    let c = or_parts (nat_lt 1000 depth) (not (has_parts r)) b.1 in
    let start : r.handler_from ≡ handler_start rows r = eqb-true r.handler_from (handler_start rows r) (not-false (r.handler_from == handler_start rows r) b.0) in
    let d = and_parts (nat_lt r.try_from r.try_to) (nat_lt r.handler_from r.handler_to) (not-false (has_parts r) c.1) in
    record {
      parts = record {
        has_try = ltb-true r.try_from r.try_to d.0;
        is_behind = omega (arith, start, behind_try rows r parts);
        has_handler = ltb-true r.handler_from r.handler_to d.1;
      };
      placed = none_of (λ (x : Region). is_misplaced x r) rows a.0;
      start = start;
      ends = ends;
      listed = listed;
    }

-- ---- the rule on nesting among the rules on regions

fails_left : (xs ys : List Test) (r : Refusal) → Fails xs r → Fails (xs ++ ys) r
fails_left [] ys r f = absurd f
fails_left (x ∷ xs) ys r (inl f) = inl f
fails_left (x ∷ xs) ys r (inr f) = inr (fails_left xs ys r f)

fails_right : (xs ys : List Test) (r : Refusal) → Fails ys r → Fails (xs ++ ys) r
fails_right [] ys r f = f
fails_right (x ∷ xs) ys r f = inr (fails_right xs ys r f)

test_fails : (f : ℕ × Region → Test) (n : ℕ) (xs : List Region) (k : ℕ) (d : Region) → k < length xs → NoneBroken (Fails (map f (enumerate_from n xs))) → (f (n + k, get_or xs k d)).fails ≡ false
test_fails f n [] k d h none = absurd (omega (arith, h))
test_fails f n (x ∷ xs) zero d h none =
    subst (λ (m : ℕ). (f (m, x)).fails ≡ false) (omega arith) (false_from_ne_true (f (n, x)).fails (λ e. none (f (n, x)).refusal (inl (e, refl))))
test_fails f n (x ∷ xs) (suc k) d h none =
    subst (λ (m : ℕ). (f (m, get_or xs k d)).fails ≡ false) (omega arith) (test_fails f (n + 1) xs k d (omega (arith, h)) (λ r e. none r (inr e)))

pub nest_well : (place : Place) (b : Body) → NoneBroken (BreaksControl place b) → NestWell b.regions
nest_well place b none k d h =
    let first : List Test = map (filter_test place b) b.regions in
    let nesting : List Test = map (nesting_test place b) (enumerate_from 0 b.regions) in
    let rest : List Test = map (edge_test place b) (enumerate_from 0 b.instrs) ++ map (end_test place b) (enumerate_from 0 b.instrs) in
    subst (λ (m : ℕ). breaks_nesting (take m b.regions) (get_or b.regions k d) (slice_index (depths_of b.regions) m) ≡ false) (omega arith)
    (test_fails (nesting_test place b) 0 b.regions k d h (λ r f. none r (fails_right first (nesting ++ rest) r (fails_left nesting rest r f))))

-- the place of a region's end is one of the body's
pub valid_ends : (count : ℕ) (rs : List Region) → AllValidRegions count rs → All (λ (r : Region). r.handler_to ≤ count) rs
valid_ends count [] v = All-nil (λ (r : Region). r.handler_to ≤ count)
valid_ends count (r ∷ rs) v = All-cons (λ (x : Region). x.handler_to ≤ count) r rs v.0.handler_end (valid_ends count rs v.1)

pub none_broken : (Broken : Refusal → Type 0) (fault : Option Refusal) → fault ≡ None → MatchOption fault (NoneBroken Broken) (First Broken) → NoneBroken Broken
none_broken Broken fault e m = subst (λ (o : Option Refusal). MatchOption o (NoneBroken Broken) (First Broken)) e m
