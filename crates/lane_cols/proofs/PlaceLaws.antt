-- Places of parts, one after another.
use Rattle.std.proofs.Common.{◌≡◌, ℕ, suc, ◌+◌, ◌-◌, ◌≤◌, ◌<◌, eqb, Bool, true, false, cond, List, [], ◌∷◌, ◌++◌, length, take, drop, take-add, slice_range, get_or, refl, sym, ap, ◌∙◌, arith, count_by, append_assoc, append-nil}
use Rattle.std.proofs.lemmas.Bool.{eq-eqb, ne_eqb}
use Rattle.std.proofs.lemmas.List.{length-take-le, length-drop, take_more, get_or-drop}
use Rattle.std.proofs.lemmas.List.Sums.{sum_by-cons}
use Rattle.std.specs.Prelude.{map, filter}
use Rattle.std.specs.List.{enumerate_from}
use Rattle.lane_cols.specs.Places.{holds, place, places, places_from}

filtered : (at v : ℕ) (xs : List ℕ) → places_from at v xs ≡ map place (filter (holds v) (enumerate_from at xs))
filtered at v [] = refl
filtered at v (x ∷ xs) = go (eqb x v) (filtered (at + 1) v xs)
  where
    go : (b : Bool) → places_from (at + 1) v xs ≡ map place (filter (holds v) (enumerate_from (at + 1) xs))
        → cond b (at ∷ places_from (at + 1) v xs) (places_from (at + 1) v xs) ≡ map place (cond b ((at, x) ∷ filter (holds v) (enumerate_from (at + 1) xs)) (filter (holds v) (enumerate_from (at + 1) xs)))
    go true e = ap (λ (l : List ℕ). at ∷ l) e
    go false e = e

pub all_places : (v : ℕ) (xs : List ℕ) → places_from 0 v xs ≡ places v xs
all_places v xs = filtered 0 v xs

pub places-append : (at v : ℕ) (xs ys : List ℕ) → places_from at v (xs ++ ys) ≡ places_from at v xs ++ places_from (at + length xs) v ys
places-append at v [] ys = ap (λ (k : ℕ). places_from k v ys) (omega arith)
places-append at v (x ∷ xs) ys =
    go (eqb x v) (places-append (at + 1) v xs ys)
  where
    same : places_from (at + 1 + length xs) v ys ≡ places_from (at + (suc (length xs))) v ys
    same = ap (λ (k : ℕ). places_from k v ys) (omega arith)

    go : (b : Bool) → places_from (at + 1) v (xs ++ ys) ≡ places_from (at + 1) v xs ++ places_from (at + 1 + length xs) v ys
        → cond b (at ∷ places_from (at + 1) v (xs ++ ys)) (places_from (at + 1) v (xs ++ ys)) ≡ cond b (at ∷ places_from (at + 1) v xs) (places_from (at + 1) v xs) ++ places_from (at + suc (length xs)) v ys
    go true e = ap (λ (l : List ℕ). at ∷ l) (e ∙ ap (λ (l : List ℕ). places_from (at + 1) v xs ++ l) same)
    go false e = e ∙ ap (λ (l : List ℕ). places_from (at + 1) v xs ++ l) same

pub none_counted : (at v : ℕ) (xs : List ℕ) → count_by (λ x. eqb x v) xs ≡ 0 → places_from at v xs ≡ []
none_counted at v [] h = refl
none_counted at v (x ∷ xs) h = go (λ k. none_counted (at + 1) v xs k) (eqb x v) refl
  where
    go : (count_by (λ y. eqb y v) xs ≡ 0 → places_from (at + 1) v xs ≡ []) → (b : Bool) → eqb x v ≡ b → cond b (at ∷ places_from (at + 1) v xs) (places_from (at + 1) v xs) ≡ []
    go rest true e = let n : cond (eqb x v) 1 0 + count_by (λ y. eqb y v) xs ≡ 0 = sym (sum_by-cons (λ y. cond (eqb y v) 1 0) x xs) ∙ h in let m : 1 + count_by (λ y. eqb y v) xs ≡ 0 = rw e at n in absurd (omega (arith, m))
    go rest false e = let n : cond (eqb x v) 1 0 + count_by (λ y. eqb y v) xs ≡ 0 = sym (sum_by-cons (λ y. cond (eqb y v) 1 0) x xs) ∙ h in let m : 0 + count_by (λ y. eqb y v) xs ≡ 0 = rw e at n in rest (omega (arith, m))

pub up_to : (v at to : ℕ) (xs : List ℕ) → at ≤ to → to ≤ length xs → places_from 0 v (take to xs) ≡ places_from 0 v (take at xs) ++ places_from at v (slice_range xs at to)
up_to v at to xs le within =
    let n : to ≡ at + (to - at) = omega arith in
    let parts : take to xs ≡ take at xs ++ take (to - at) (drop at xs) = ap (λ (k : ℕ). take k xs) n ∙ take-add at (to - at) xs in
    let place : 0 + length (take at xs) ≡ at = omega (arith, length-take-le at xs (omega arith)) in
    ap (places_from 0 v) parts ∙ places-append 0 v (take at xs) (take (to - at) (drop at xs))
    ∙ ap (λ (k : ℕ). places_from 0 v (take at xs) ++ places_from k v (take (to - at) (drop at xs))) place

pub one_more : (v from i : ℕ) (xs : List ℕ) → from ≤ i → i < length xs → places_from from v (slice_range xs from (i + 1)) ≡ places_from from v (slice_range xs from i) ++ cond (eqb (get_or xs i 0) v) (i ∷ []) []
one_more v from i xs le lt =
    let n : i + 1 - from ≡ (i - from) + 1 = omega arith in
    let rest = drop from xs in
    let parts : take (i + 1 - from) rest ≡ take (i - from) rest ++ get_or rest (i - from) 0 ∷ [] = ap (λ (k : ℕ). take k rest) n ∙ take_more rest (i - from) 0 (omega (arith, length-drop from xs)) in
    let place : from + length (take (i - from) rest) ≡ i = omega (arith, length-take-le (i - from) rest (omega (arith, length-drop from xs))) in
    let item : get_or rest (i - from) 0 ≡ get_or xs i 0 = get_or-drop from xs (i - from) 0 ∙ ap (λ (k : ℕ). get_or xs k 0) (omega arith) in
    ap (places_from from v) parts ∙ places-append from v (take (i - from) rest) (get_or rest (i - from) 0 ∷ [])
    ∙ ap (λ (k : ℕ). places_from from v (take (i - from) rest) ++ cond (eqb (get_or rest (i - from) 0) v) (k ∷ []) []) place
    ∙ ap (λ (x : ℕ). places_from from v (take (i - from) rest) ++ cond (eqb x v) (i ∷ []) []) item

pub one_yes : (v from i : ℕ) (xs old new : List ℕ) → from ≤ i → i < length xs → get_or xs i 0 ≡ v → new ≡ old ++ places_from from v (slice_range xs from i) → new ++ i ∷ [] ≡ old ++ places_from from v (slice_range xs from (i + 1))
one_yes v from i xs old new le lt e h =
    let yes : eqb (get_or xs i 0) v ≡ true = eq-eqb (get_or xs i 0) v e in
    ap (λ (l : List ℕ). l ++ i ∷ []) h ∙ append_assoc old _ (i ∷ []) ∙ ap (λ (l : List ℕ). old ++ l) (sym (one_more v from i xs le lt ∙ ap (λ (b : Bool). places_from from v (slice_range xs from i) ++ cond b (i ∷ []) []) yes))

pub one_no : (v from i : ℕ) (xs old new : List ℕ) → from ≤ i → i < length xs → (get_or xs i 0 ≡ v → ⊥) → new ≡ old ++ places_from from v (slice_range xs from i) → new ≡ old ++ places_from from v (slice_range xs from (i + 1))
one_no v from i xs old new le lt e h =
    let no : eqb (get_or xs i 0) v ≡ false = ne_eqb (get_or xs i 0) v e in
    h ∙ ap (λ (l : List ℕ). old ++ l) (sym (one_more v from i xs le lt ∙ ap (λ (b : Bool). places_from from v (slice_range xs from i) ++ cond b (i ∷ []) []) no ∙ append-nil _))
