-- A test of all entries, by parts and by a count.
use Rattle.std.proofs.Common.{◌≡◌, ◌≢◌, ℕ, suc, ◌+◌, ◌-◌, ◌≤◌, eqb, Bool, true, false, cond, ◌&&◌, List, [], ◌∷◌, length, take, drop, take-add, slice_range, refl, sym, ap, ◌∙◌, arith, count_by}
use Rattle.std.specs.List.{list_all}
use Rattle.std.proofs.lemmas.Bool.{eq-eqb, ne_eqb}
use Rattle.std.proofs.lemmas.List.{take-append-drop, length-take-le, length-drop}
use Rattle.std.proofs.lemmas.List.Folds.{list_all-append}
use Rattle.std.proofs.lemmas.List.Sums.{sum_by-cons, count_by-le-length}

pub all_counted : (p : ℕ → Bool) (xs : List ℕ) → list_all p xs ≡ eqb (count_by p xs) (length xs)
all_counted p [] = refl
all_counted p (x ∷ xs) = go (p x) (all_counted p xs) (sum_by-cons (λ y. cond (p y) 1 0) x xs)
  where
    go : (b : Bool) → list_all p xs ≡ eqb (count_by p xs) (length xs) → count_by p (x ∷ xs) ≡ cond b 1 0 + count_by p xs → (b && list_all p xs) ≡ eqb (count_by p (x ∷ xs)) (suc (length xs))
    go true e n = e ∙ one_more (count_by p xs) (length xs) (count_by p (x ∷ xs)) n
      where
        one_more : (a b c : ℕ) → c ≡ 1 + a → eqb a b ≡ eqb c (suc b)
        one_more a b c h = grind arith
    go false e n = sym (ne_eqb (count_by p (x ∷ xs)) (suc (length xs)) (fewer (count_by p xs) (length xs) (count_by p (x ∷ xs)) n (count_by-le-length p xs)))
      where
        fewer : (a b c : ℕ) → c ≡ 0 + a → a ≤ b → c ≢ suc b
        fewer a b c h le = omega arith

-- up to the end of a block
pub all_up_to : (p : ℕ → Bool) (at to : ℕ) (xs : List ℕ) → at ≤ to → list_all p (take to xs) ≡ (list_all p (take at xs) && list_all p (slice_range xs at to))
all_up_to p at to xs le =
    let n : to ≡ at + (to - at) = omega arith in
    ap (λ (k : ℕ). list_all p (take k xs)) n ∙ ap (list_all p) (take-add at (to - at) xs) ∙ list_all-append p (take at xs) (take (to - at) (drop at xs))

-- the front, and what is behind it
pub all_parts : (p : ℕ → Bool) (at : ℕ) (xs : List ℕ) → list_all p xs ≡ (list_all p (take at xs) && list_all p (drop at xs))
all_parts p at xs = ap (list_all p) (sym (take-append-drop at xs)) ∙ list_all-append p (take at xs) (drop at xs)

pub length_block : (at n : ℕ) (xs : List ℕ) → at + n ≤ length xs → length (slice_range xs at (at + n)) ≡ n
length_block at n xs le = let m : at + n - at ≡ n = omega arith in ap (λ (k : ℕ). length (take k (drop at xs))) m ∙ length-take-le n (drop at xs) (omega (arith, length-drop at xs))

pub full_block : (p : ℕ → Bool) (at n : ℕ) (xs : List ℕ) → at + n ≤ length xs → list_all p (take at xs) ≡ true → count_by p (slice_range xs at (at + n)) ≡ n → list_all p (take (at + n) xs) ≡ true
full_block p at n xs le front full =
    let block : list_all p (slice_range xs at (at + n)) ≡ true = all_counted p (slice_range xs at (at + n)) ∙ eq-eqb (count_by p (slice_range xs at (at + n))) (length (slice_range xs at (at + n))) (full ∙ sym (length_block at n xs le)) in
    all_up_to p at (at + n) xs (omega arith) ∙ rw (front, block) refl

pub broken_block : (p : ℕ → Bool) (at n : ℕ) (xs : List ℕ) → at + n ≤ length xs → count_by p (slice_range xs at (at + n)) ≢ n → list_all p xs ≡ false
broken_block p at n xs le few =
    let block : list_all p (slice_range xs at (at + n)) ≡ false = all_counted p (slice_range xs at (at + n)) ∙ ne_eqb (count_by p (slice_range xs at (at + n))) (length (slice_range xs at (at + n))) (λ e. few (e ∙ length_block at n xs le)) in
    let front : list_all p (take (at + n) xs) ≡ false = all_up_to p at (at + n) xs (omega arith) ∙ ap (λ (b : Bool). list_all p (take at xs) && b) block ∙ none (list_all p (take at xs)) in
    all_parts p (at + n) xs ∙ ap (λ (b : Bool). b && list_all p (drop (at + n) xs)) front
  where
    none : (b : Bool) → (b && false) ≡ false
    none true = refl
    none false = refl
