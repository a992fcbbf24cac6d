-- How far ranges reach, as ranges are added, and what that tells of crossed calls and of regions.
use Rattle.std.proofs.Common.{◌≡◌, ℕ, zero, suc, ◌+◌, ◌<◌, ◌≤◌, ◌⊎◌, inl, inr, max, Bool, true, false, ◌||◌, ◌&&◌, nat_lt, List, [], ◌∷◌, ◌++◌, length, get_or, set, take, map, replicate, refl, sym, subst, ap, ◌∙◌, arith}
use Rattle.std.specs.Prelude.{nat_le, if◌then◌else◌}
use Rattle.std.specs.List.{list_any, flat_map, enumerate_from, range_with_len}
use Rattle.std.proofs.lemmas.Bool.{cases_lt}
use Rattle.std.proofs.lemmas.Bool.Decides.{nat_tests}
use Rattle.std.proofs.lemmas.List.{length-set, length-take-le, length-replicate, take-set-le, take_more, map-append}
use Rattle.std.proofs.lemmas.Grind.{flat_map-append}
use Rattle.std.proofs.lemmas.List.Folds.{list_any-append}
use Rattle.std.proofs.lemmas.List.FromFn.{fill_by_all, length-map-range_with_len, get_or-map-range_with_len, map-range_with_len_more}
use Rattle.cil_model.specs.declared.body.Instr.{Instr}
use Rattle.cil_model.specs.declared.body.Region.{Region}
use Rattle.il_flow.specs.Boundaries.{Places}
use Rattle.il_flow.specs.Reach.{max_of}
use Rattle.il_flow.specs.Successors.{targets}
use Rattle.il_flow.proofs.ReachLaws.{farther}
use Rattle.contract_extract.specs.Rules.{crosses, has_place, meets}
use Rattle.contract_extract.specs.Reach.{crossed_over, crossed_ranges, all_crossed, region_parts, all_parts, farthest, all_farthest, reach_at, ends_up_to, TellsMore}

take_set : (xs : List ℕ) (n k v : ℕ) → k < n → take n (set xs k v) ≡ set (take n xs) k v
take_set [] zero k v h = refl
take_set [] (suc n) k v h = refl
take_set (x ∷ xs) zero k v h = absurd (omega arith)
take_set (x ∷ xs) (suc n) zero v h = refl
take_set (x ∷ xs) (suc n) (suc k) v h = ap (λ (l : List ℕ). x ∷ l) (take_set xs n k v (omega arith))

max_set : (xs : List ℕ) (k v : ℕ) → k < length xs → get_or xs k 0 ≤ v → max_of (set xs k v) ≡ max (max_of xs) v
max_set [] k v h le = absurd (omega arith)
max_set (x ∷ xs) zero v h le = omega arith
max_set (x ∷ xs) (suc k) v h le = let e = max_set xs k v (omega arith) le in omega arith

max_ge : (xs : List ℕ) (k : ℕ) → k < length xs → get_or xs k 0 ≤ max_of xs
max_ge [] k h = absurd (omega arith)
max_ge (x ∷ xs) zero h = omega arith
max_ge (x ∷ xs) (suc k) h = let e = max_ge xs k (omega arith) in omega arith

get_take : (xs : List ℕ) (n k : ℕ) → k < n → get_or (take n xs) k 0 ≡ get_or xs k 0
get_take [] zero k h = refl
get_take [] (suc n) k h = refl
get_take (x ∷ xs) zero k h = absurd (omega arith)
get_take (x ∷ xs) (suc n) zero h = refl
get_take (x ∷ xs) (suc n) (suc k) h = get_take xs n k (omega arith)

-- ---- one more range

told_in_front : (q from to : ℕ) → q < from → farthest ((from, to) ∷ []) q ≡ 0
told_in_front q from to h =
    let out : nat_le from q ≡ false = grind (arith, nat_tests) in
    ap (λ (b : Bool). max (if b then to else 0) 0) out

told_behind : (q from to : ℕ) → from ≤ q → farthest ((from, to) ∷ []) q ≡ to
told_behind q from to h =
    let within : nat_le from q ≡ true = grind (arith, nat_tests) in
    ap (λ (b : Bool). max (if b then to else 0) 0) within ∙ zero_less to
  where
    zero_less : (n : ℕ) → max n 0 ≡ n
    zero_less n = omega arith

pub put_more : (ends : List ℕ) (from to : ℕ) → from < length ends → get_or ends from 0 < to → TellsMore ends (set ends from to) ((from, to) ∷ [])
put_more ends from to within less = record { size = length-set ends from to; each = λ q below. go q below }
  where
    in_front : (q : ℕ) → q < from → reach_at (set ends from to) q ≡ max (reach_at ends q) (farthest ((from, to) ∷ []) q)
    in_front q h =
        let same : reach_at (set ends from to) q ≡ reach_at ends q = ap max_of (take-set-le (q + 1) ends from to (omega arith)) in
        let none = told_in_front q from to h in
        omega arith

    behind : (q : ℕ) → from ≤ q → q < length ends → reach_at (set ends from to) q ≡ max (reach_at ends q) (farthest ((from, to) ∷ []) q)
    behind q h below =
        let front = take (q + 1) ends in
        let size : length front ≡ q + 1 = length-take-le (q + 1) ends (omega arith) in
        let same : get_or front from 0 ≡ get_or ends from 0 = get_take ends (q + 1) from (omega arith) in
        let told = told_behind q from to h in
        let new : reach_at (set ends from to) q ≡ max (max_of front) to = ap max_of (take_set ends (q + 1) from to (omega arith)) ∙ max_set front from to (omega arith) (omega arith) in
        new ∙ ap (max (max_of front)) (sym told)

    go : (q : ℕ) → q < length ends → reach_at (set ends from to) q ≡ max (reach_at ends q) (farthest ((from, to) ∷ []) q)
    go q below = elim (cases_lt q from) [ inl h ↦ in_front q h | inr h ↦ behind q h below ]

pub put_none : (ends : List ℕ) (from to : ℕ) → (from < length ends → to ≤ get_or ends from 0) → TellsMore ends ends ((from, to) ∷ [])
put_none ends from to more = record { size = refl; each = λ q below. go q below }
  where
    in_front : (q : ℕ) → q < from → reach_at ends q ≡ max (reach_at ends q) (farthest ((from, to) ∷ []) q)
    in_front q h = let none = told_in_front q from to h in omega arith

    behind : (q : ℕ) → from ≤ q → q < length ends → reach_at ends q ≡ max (reach_at ends q) (farthest ((from, to) ∷ []) q)
    behind q h below =
        let front = take (q + 1) ends in
        let size : length front ≡ q + 1 = length-take-le (q + 1) ends (omega arith) in
        let same : get_or front from 0 ≡ get_or ends from 0 = get_take ends (q + 1) from (omega arith) in
        let top = max_ge front from (omega arith) in
        let told = told_behind q from to h in
        let enough = more (omega arith) in
        omega arith

    go : (q : ℕ) → q < length ends → reach_at ends q ≡ max (reach_at ends q) (farthest ((from, to) ∷ []) q)
    go q below = elim (cases_lt q from) [ inl h ↦ in_front q h | inr h ↦ behind q h below ]

pub tells_nothing : (ends : List ℕ) → TellsMore ends ends []
tells_nothing ends = record { size = refl; each = λ q below. omega arith }

farthest-append : (xs ys : List Places) (q : ℕ) → farthest (xs ++ ys) q ≡ max (farthest xs q) (farthest ys q)
farthest-append [] ys q = omega arith
farthest-append (x ∷ xs) ys q = let e = farthest-append xs ys q in omega arith

pub tells_both : (a b c : List ℕ) (xs ys : List Places) → TellsMore a b xs → TellsMore b c ys → TellsMore a c (xs ++ ys)
tells_both a b c xs ys f g =
    record {
      size = g.size ∙ f.size;
      each = λ q below. joined q (f.each q below) (g.each q (omega (arith, f.size)));
    }
  where
    joined : (q : ℕ) → reach_at b q ≡ max (reach_at a q) (farthest xs q) → reach_at c q ≡ max (reach_at b q) (farthest ys q) → reach_at c q ≡ max (reach_at a q) (farthest (xs ++ ys) q)
    joined q m n = let e = farthest-append xs ys q in omega arith

pub told_more : (a b c : List ℕ) (f : ℕ → Places) (xs : List ℕ) (k x : ℕ) → k < length xs → x ≡ get_or xs k 0 → TellsMore a b (map f (take k xs)) → TellsMore b c (f x ∷ []) → TellsMore a c (map f (take (k + 1) xs))
told_more a b c f xs k x h e old one =
    subst (TellsMore a c) (ap (λ (y : ℕ). map f (take k xs) ++ f y ∷ []) e ∙ sym (map-append f (take k xs) (get_or xs k 0 ∷ [])) ∙ ap (map f) (sym (take_more xs k 0 h)))
    (tells_both a b c (map f (take k xs)) (f x ∷ []) old one)

pub parts_more : (a b c : List ℕ) (rs : List Region) (k : ℕ) (d : Region) → k < length rs → TellsMore a b (all_parts (take k rs)) → TellsMore b c (region_parts (get_or rs k d)) → TellsMore a c (all_parts (take (k + 1) rs))
parts_more a b c rs k d h old one =
    subst (TellsMore a c) (sym (flat_map-append region_parts (take k rs) (get_or rs k d ∷ [])) ∙ ap all_parts (sym (take_more rs k d h)))
    (tells_both a b c (all_parts (take k rs)) (region_parts (get_or rs k d)) old one)

-- ---- one more place

pub spread_more : (ends : List ℕ) (q far now : ℕ) (old new : List ℕ) → q < length ends → far ≡ max_of (take q ends) → now ≡ max far (get_or ends q 0) → old ≡ ends_up_to ends q → new ≡ old ++ now ∷ [] → (now ≡ max_of (take (q + 1) ends)) × (new ≡ ends_up_to ends (q + 1))
spread_more ends q far now old new within e n o m =
    let here : now ≡ max_of (take (q + 1) ends) = n ∙ farther ends q far within e in (
      here,
      m ∙ ap (λ (l : List ℕ). l ++ now ∷ []) o ∙ ap (λ (x : ℕ). ends_up_to ends q ++ x ∷ []) here ∙ sym (map-range_with_len_more (reach_at ends) 0 q q (omega arith)),
    )

no_ends : (n q : ℕ) → reach_at (replicate n 0) q ≡ 0
no_ends n q = zeros n (q + 1)
  where
    zeros : (n k : ℕ) → max_of (take k (replicate n 0)) ≡ 0
    zeros zero zero = refl
    zeros zero (suc k) = refl
    zeros (suc n) zero = refl
    zeros (suc n) (suc k) = let e = zeros n k in omega arith

pub all_told : (n : ℕ) (ends : List ℕ) (rs : List Places) → TellsMore (replicate n 0) ends rs → ends_up_to ends (length ends) ≡ all_farthest n rs
all_told n ends rs more =
    let zeros : length (replicate {A = ℕ} n 0) ≡ n = length-replicate n 0 in
    let size : length ends ≡ n = more.size ∙ zeros in
    ap (ends_up_to ends) size
    ∙ fill_by_all (farthest rs) (ends_up_to ends n) n 0 (length-map-range_with_len (reach_at ends) 0 n)
    (λ q below. get_or-map-range_with_len (reach_at ends) 0 n q q 0 below (omega arith) ∙ one q (more.each q (omega arith)))
  where
    one : (q : ℕ) → reach_at ends q ≡ max (reach_at (replicate n 0) q) (farthest rs q) → reach_at ends q ≡ farthest rs q
    one q e = let none = no_ends n q in omega arith

-- ---- what it tells

reaches : (rs : List Places) (x q : ℕ) → nat_lt x (farthest rs q) ≡ list_any (λ (r : Places). nat_le r.0 q && nat_lt x r.1) rs
reaches [] x q = grind (arith, nat_tests)
reaches (r ∷ rs) x q = one (nat_le r.0 q) ∙ ap (λ (b : Bool). (nat_le r.0 q && nat_lt x r.1) || b) (reaches rs x q)
  where
    one : (b : Bool) → nat_lt x (max (if b then r.1 else 0) (farthest rs q)) ≡ ((b && nat_lt x r.1) || nat_lt x (farthest rs q))
    one true = grind (arith, nat_tests)
    one false = grind (arith, nat_tests)

told_at : (rs : List Places) (n q : ℕ) → q < n → get_or (all_farthest n rs) q 0 ≡ farthest rs q
told_at rs n q h = get_or-map-range_with_len (farthest rs) 0 n q q 0 h (omega arith)

ahead : (q k t : ℕ) → k < t → ((nat_lt k q && nat_lt q t) || (nat_lt q k && nat_le t q)) ≡ (nat_le (k + 1) q && nat_lt q t)
ahead q k t h = grind (arith, nat_tests)

back : (q k t : ℕ) → t ≤ k → ((nat_lt k q && nat_lt q t) || (nat_lt q k && nat_le t q)) ≡ (nat_le t q && nat_lt q k)
back q k t h = grind (arith, nat_tests)

abbrev pub holds_it : ℕ → Places → Bool
holds_it q r = nat_le r.0 q && nat_lt q r.1

by_target : (q k t : ℕ) → ((nat_lt k q && nat_lt q t) || (nat_lt q k && nat_le t q)) ≡ holds_it q (crossed_over k t)
by_target q k t = go (nat_lt k t) refl
  where
    less : (a b : ℕ) → nat_lt a b ≡ true → a < b
    less a b e = grind (arith, nat_tests)

    not_less : (a b : ℕ) → nat_lt a b ≡ false → b ≤ a
    not_less a b e = grind (arith, nat_tests)

    go : (b : Bool) → nat_lt k t ≡ b → ((nat_lt k q && nat_lt q t) || (nat_lt q k && nat_le t q)) ≡ holds_it q (if b then (k + 1, t) else (t, k))
    go true e = ahead q k t (less k t e)
    go false e = back q k t (not_less k t e)

by_targets : (q k : ℕ) (ts : List ℕ) → list_any (λ t. (nat_lt k q && nat_lt q t) || (nat_lt q k && nat_le t q)) ts ≡ list_any (holds_it q) (map (crossed_over k) ts)
by_targets q k [] = refl
by_targets q k (t ∷ ts) = rw (by_target q k t, by_targets q k ts) refl

by_instrs : (q : ℕ) (xs : List (ℕ × Instr)) → list_any (crosses q) xs ≡ list_any (holds_it q) (flat_map crossed_ranges xs)
by_instrs q [] = refl
by_instrs q (x ∷ xs) =
    ap (λ (b : Bool). b || list_any (crosses q) xs) (by_targets q x.0 (targets x.1.operand))
    ∙ ap (λ (b : Bool). list_any (holds_it q) (crossed_ranges x) || b) (by_instrs q xs)
    ∙ sym (list_any-append (holds_it q) (crossed_ranges x) (flat_map crossed_ranges xs))

-- a call is crossed where what begins up to it ends behind it
pub crossed_at : (is : List Instr) (q : ℕ) → q < length is → nat_lt q (get_or (all_farthest (length is) (all_crossed is)) q 0) ≡ list_any (crosses q) (enumerate_from 0 is)
crossed_at is q h = ap (nat_lt q) (told_at (all_crossed is) (length is) q h) ∙ reaches (all_crossed is) q q ∙ sym (by_instrs q (enumerate_from 0 is))

by_place : (q : ℕ) (rs : List Region) → list_any (holds_it q) (all_parts rs) ≡ list_any (has_place q) rs
by_place q [] = refl
by_place q (r ∷ rs) =
    ap (λ (b : Bool). (nat_le r.try_from q && nat_lt q r.try_to) || ((nat_le r.handler_from q && nat_lt q r.handler_to) || b)) (by_place q rs)
    ∙ in_two (nat_le r.try_from q && nat_lt q r.try_to) (nat_le r.handler_from q && nat_lt q r.handler_to) (list_any (has_place q) rs)
  where
    in_two : (a b c : Bool) → (a || (b || c)) ≡ ((a || b) || c)
    in_two true b c = refl
    in_two false b c = refl

-- a place is part of a region where a part that begins up to it ends behind it
pub in_region_at : (n : ℕ) (rs : List Region) (q : ℕ) → q < n → nat_lt q (get_or (all_farthest n (all_parts rs)) q 0) ≡ list_any (has_place q) rs
in_region_at n rs q h = ap (nat_lt q) (told_at (all_parts rs) n q h) ∙ reaches (all_parts rs) q q ∙ by_place q rs

turned : (x q a b : ℕ) → (nat_le a q && nat_lt x b) ≡ (nat_lt x b && nat_lt a (q + 1))
turned x q a b = grind (arith, nat_tests)

by_part : (x q : ℕ) (rs : List Region) → list_any (λ (r : Places). nat_le r.0 q && nat_lt x r.1) (all_parts rs) ≡ list_any (meets x (q + 1)) rs
by_part x q [] = refl
by_part x q (r ∷ rs) =
    ap (λ (b : Bool). (nat_le r.try_from q && nat_lt x r.try_to) || ((nat_le r.handler_from q && nat_lt x r.handler_to) || b)) (by_part x q rs)
    ∙ ap (λ (a : Bool). a || ((nat_le r.handler_from q && nat_lt x r.handler_to) || list_any (meets x (q + 1)) rs)) (turned x q r.try_from r.try_to)
    ∙ ap (λ (a : Bool). (nat_lt x r.try_to && nat_lt r.try_from (q + 1)) || (a || list_any (meets x (q + 1)) rs)) (turned x q r.handler_from r.handler_to)
    ∙ in_two (nat_lt x r.try_to && nat_lt r.try_from (q + 1)) (nat_lt x r.handler_to && nat_lt r.handler_from (q + 1)) (list_any (meets x (q + 1)) rs)
  where
    in_two : (a b c : Bool) → (a || (b || c)) ≡ ((a || b) || c)
    in_two true b c = refl
    in_two false b c = refl

-- a range of places meets a region where a part that begins up to its last place ends behind its first
pub meets_at : (n : ℕ) (rs : List Region) (from at : ℕ) → at < n → nat_lt from (get_or (all_farthest n (all_parts rs)) at 0) ≡ list_any (meets from (at + 1)) rs
meets_at n rs from at h = ap (nat_lt from) (told_at (all_parts rs) n at h) ∙ reaches (all_parts rs) from at ∙ by_part from at rs
