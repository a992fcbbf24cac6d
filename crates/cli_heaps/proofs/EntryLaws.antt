-- Where a zero byte, and so the end of a string, is found.
use Rattle.std.proofs.Common.{◌≡◌, ◌≢◌, ℕ, zero, suc, ◌+◌, ◌-◌, ◌≤◌, ◌<◌, ltb, eqb, not, Bool, true, false, cond, ◌||◌, List, [], ◌∷◌, length, take, drop, get_or, drop-cons, Some, None, is_some, refl, sym, ap, ◌∙◌, arith, option_map}
use Rattle.std.specs.List.{list_any, position_or_len}
use Rattle.std.proofs.lemmas.Bool.{ltb-true, ltb-false, lt-ltb, eq-eqb, ne_eqb}
use Rattle.std.proofs.lemmas.List.{drop-drop}
use Rattle.cli_heaps.specs.Root.{is_zero}
use Rattle.cli_heaps.specs.Entries.{until_zero, string_at}

-- a search ends before the end exactly where an element passes
pub found_any : (p : ℕ → Bool) (xs : List ℕ) → ltb (position_or_len p xs) (length xs) ≡ list_any p xs
found_any p [] = refl
found_any p (x ∷ xs) = go (p x) (found_any p xs)
  where
    go : (b : Bool) → ltb (position_or_len p xs) (length xs) ≡ list_any p xs → ltb (cond (not b) (1 + position_or_len p xs) 0) (suc (length xs)) ≡ (b || list_any p xs)
    go true e = lt-ltb 0 (suc (length xs)) (omega arith)
    go false e = one_more (position_or_len p xs) (length xs) ∙ e
      where
        one_more : (a b : ℕ) → ltb (1 + a) (suc b) ≡ ltb a b
        one_more a b = grind arith

pub until_any : (xs : List ℕ) → is_some (until_zero xs) ≡ list_any is_zero xs
until_any xs = go (ltb (position_or_len is_zero xs) (length xs)) ∙ found_any is_zero xs
  where
    go : (b : Bool) → is_some (option_map (λ (n : ℕ). take n xs) (cond b (Some (position_or_len is_zero xs)) None)) ≡ b
    go true = refl
    go false = refl

pub none_dropped : (p : ℕ → Bool) (n : ℕ) (xs : List ℕ) → list_any p xs ≡ false → list_any p (drop n xs) ≡ false
none_dropped p zero xs h = h
none_dropped p (suc n) [] h = refl
none_dropped p (suc n) (x ∷ xs) h = none_dropped p n xs (second (p x) (list_any p xs) h)
  where
    second : (a b : Bool) → (a || b) ≡ false → b ≡ false
    second true b e = absurd cc
    second false b e = e

pub some_undropped : (p : ℕ → Bool) (n : ℕ) (xs : List ℕ) → list_any p (drop n xs) ≡ true → list_any p xs ≡ true
some_undropped p n xs h = go (list_any p xs) refl
  where
    go : (b : Bool) → list_any p xs ≡ b → list_any p xs ≡ true
    go true e = e
    go false e = absurd (differ (sym (none_dropped p n xs e) ∙ h))
      where
        differ : false ≡ true → ⊥
        differ k = cc

-- one byte more in front
pub zero_in_front : (heap : List ℕ) (end : ℕ) → 0 < end → end ≤ length heap → list_any is_zero (drop (end - 1) heap) ≡ (eqb (get_or heap (end - 1) 0) 0 || list_any is_zero (drop end heap))
zero_in_front heap end pos le =
    let lt : end - 1 < length heap = omega arith in
    let e : suc (end - 1) ≡ end = omega arith in
    ap (list_any is_zero) (drop-cons heap (end - 1) 0 lt) ∙ ap (λ (k : ℕ). eqb (get_or heap (end - 1) 0) 0 || list_any is_zero (drop k heap)) e

pub no_zero_in_front : (heap : List ℕ) (end : ℕ) → 0 < end → end ≤ length heap → get_or heap (end - 1) 0 ≢ 0 → list_any is_zero (drop end heap) ≡ false → list_any is_zero (drop (end - 1) heap) ≡ false
no_zero_in_front heap end pos le ne h = zero_in_front heap end pos le ∙ rw (ne_eqb (get_or heap (end - 1) 0) 0 ne, h) refl

-- the end of the last string
pub strings_before : (heap : List ℕ) (end at : ℕ) → end ≤ length heap → list_any is_zero (drop end heap) ≡ false → (0 < end → get_or heap (end - 1) 0 ≡ 0) → is_some (string_at heap at) ≡ (eqb at 0 || ltb at end)
strings_before heap end at le none last = first (eqb at 0) refl
  where
    inside : at < end → list_any is_zero (drop at heap) ≡ true
    inside lt =
        let there : list_any is_zero (drop (end - 1) heap) ≡ true = zero_in_front heap end (omega arith) le ∙ ap (λ (b : Bool). b || list_any is_zero (drop end heap)) (eq-eqb (get_or heap (end - 1) 0) 0 (last (omega arith))) in
        let n : at + (end - 1 - at) ≡ end - 1 = omega arith in
        some_undropped is_zero (end - 1 - at) (drop at heap) (ap (list_any is_zero) (drop-drop (end - 1 - at) at heap) ∙ ap (λ (k : ℕ). list_any is_zero (drop k heap)) n ∙ there)

    outside : end ≤ at → list_any is_zero (drop at heap) ≡ false
    outside ge =
        let n : end + (at - end) ≡ at = omega arith in
        ap (λ (k : ℕ). list_any is_zero (drop k heap)) (sym n) ∙ ap (list_any is_zero) (sym (drop-drop (at - end) end heap)) ∙ none_dropped is_zero (at - end) (drop end heap) none

    rest : (b : Bool) → ltb at end ≡ b → list_any is_zero (drop at heap) ≡ b
    rest true e = inside (ltb-true at end e)
    rest false e = outside (ltb-false at end e)

    first : (b : Bool) → eqb at 0 ≡ b → is_some (cond b (Some []) (until_zero (drop at heap))) ≡ (b || ltb at end)
    first true e = refl
    first false e = until_any (drop at heap) ∙ rest (ltb at end) refl
