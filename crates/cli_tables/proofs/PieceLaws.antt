-- Numbered pieces one behind the other, the bits of a set of numbers, and tests of all.
use Rattle.std.proofs.Common.{◌≡◌, ℕ, zero, suc, ◌+◌, ◌-◌, ◌*◌, ◌/◌, ◌%◌, ◌^◌, ◌<◌, ◌≤◌, eqb, Bool, true, false, cond, ltb, ◌&&◌, List, [], ◌∷◌, ◌++◌, length, get_or, map, refl, sym, ap, ◌∙◌, subst, inl, inr, arith, add-one, append_assoc}
use Rattle.std.specs.List.{flat_map, list_all, range_with_len}
use Rattle.std.proofs.lemmas.List.{append-nil}
use Rattle.std.proofs.lemmas.List.Folds.{flat_map-map, list_all_at}
use Rattle.std.proofs.lemmas.List.FromFn.{map-range_with_len_more, length-range_with_len, get_or-range_with_len}
use Rattle.std.proofs.lemmas.Grind.{flat_map-append}
use Rattle.std.proofs.lemmas.Bool.{cases_lt, cases_Bool, lt-ltb}
use Rattle.std.proofs.lemmas.Nat.{pow_pos, pow-add}
use Rattle.std.proofs.Math.Nat.{pow-suc, pow-le-pow_right, add-mul-div_left, add-mul-mod_self_left, div-eq_of_lt, mod-eq_of_lt}
use Rattle.std.proofs.Math.Pow.{pow-lt}
use Rattle.cli_tables.specs.Stream.{has_bit}
use Rattle.cil_base.specs.Bytes.{IsAt}
use Rattle.cil_base.proofs.PieceLaws.{at_first, at_last, at_in, at_moved}
use Rattle.cli_tables.specs.Written.{pieces, bits_of}

pub pieces_none : (f : ℕ → List ℕ) → pieces f 0 ≡ []
unfolding pieces
pieces_none f = refl

-- the pieces up to the next number
pub pieces_more : (f : ℕ → List ℕ) (n : ℕ) → pieces f (n + 1) ≡ pieces f n ++ f n
unfolding pieces
pieces_more f n =
    let same : (xs : List ℕ) → flat_map f (map (λ (k : ℕ). k) xs) ≡ flat_map f xs = λ xs. flat_map-map f (λ (k : ℕ). k) xs in
    sym (same (range_with_len 0 (n + 1))) ∙ ap (flat_map f) (map-range_with_len_more (λ (k : ℕ). k) 0 n n (omega arith))
    ∙ flat_map-append f (map (λ (k : ℕ). k) (range_with_len 0 n)) (n ∷ [])
    ∙ ap (λ (l : List ℕ). l ++ (f n ++ [])) (same (range_with_len 0 n)) ∙ ap (λ (l : List ℕ). pieces f n ++ l) (append-nil (f n))

pub pieces_suc : (f : ℕ → List ℕ) (n : ℕ) → pieces f (suc n) ≡ pieces f n ++ f n
pieces_suc f n = ap (pieces f) (sym (add-one n)) ∙ pieces_more f n

pub at_piece : (f : ℕ → List ℕ) (n k : ℕ) → k < n → IsAt (pieces f n) (length (pieces f k)) (f k)
at_piece f zero k lt = absurd (omega arith)
at_piece f (suc n) k lt = subst (λ (l : List ℕ). IsAt l (length (pieces f k)) (f k)) (sym (pieces_suc f n)) (elim (cases_lt k n) [
  | inl less ↦ at_moved (pieces f n ++ f n) (f k) (0 + length (pieces f k)) (length (pieces f k)) (at_in (pieces f n ++ f n) (pieces f n) (f k) 0 (length (pieces f k)) (at_first (pieces f n) (f n)) (at_piece f n k less)) (omega arith)
  | inr le ↦ let e : k ≡ n = omega arith in subst (λ (j : ℕ). IsAt (pieces f n ++ f n) (length (pieces f j)) (f j)) (sym e) (at_last (pieces f n) (f n))
])

-- ---- pieces that are appended in turn

pub pieces_begun : (start : List ℕ) (f : ℕ → List ℕ) → start ≡ start ++ pieces f 0
pieces_begun start f = sym (append-nil start) ∙ ap (λ (l : List ℕ). start ++ l) (sym (pieces_none f))

pub pieces_pushed : (start out new piece : List ℕ) (f : ℕ → List ℕ) (n : ℕ) → out ≡ start ++ pieces f n → new ≡ out ++ piece → piece ≡ f n → new ≡ start ++ pieces f (n + 1)
pieces_pushed start out new piece f n before push e =
    push ∙ ap (λ (l : List ℕ). l ++ piece) before ∙ append_assoc start (pieces f n) piece
    ∙ ap (λ (l : List ℕ). start ++ (pieces f n ++ l)) e ∙ ap (λ (l : List ℕ). start ++ l) (sym (pieces_more f n))

-- ---- the bits of the numbers that pass a test

pub bits_more : (p : ℕ → Bool) (n : ℕ) → bits_of p (n + 1) ≡ bits_of p n + cond (p n) (2 ^ n) 0
unfolding bits_of
bits_more p n = rw add-one refl

pub bits_small : (p : ℕ → Bool) (n : ℕ) → bits_of p n < 2 ^ n
unfolding bits_of
bits_small p zero = omega arith
bits_small p (suc n) = go (p n) (bits_small p n)
  where
    go : (b : Bool) → bits_of p n < 2 ^ n → bits_of p n + cond b (2 ^ n) 0 < 2 ^ suc n
    go true h = omega (arith, h, pow-suc 2 n)
    go false h = omega (arith, h, pow-suc 2 n)

-- a higher bit leaves a lower one as it was
low_bit : (x n k : ℕ) → k < n → has_bit (x + 2 ^ n) k ≡ has_bit x k
low_bit x n k lt =
    let m : ℕ = 2 ^ (n - k - 1) in
    let split : 2 ^ n ≡ 2 ^ k * (2 * 2 ^ (n - k - 1)) =
    let e : n ≡ k + (1 + (n - k - 1)) = omega arith in ap (λ (j : ℕ). 2 ^ j) e ∙ pow-add 2 k (1 + (n - k - 1)) ∙ ap (λ (j : ℕ). 2 ^ k * j) (pow-add 2 1 (n - k - 1)) in
    let high : (x + 2 ^ n) / 2 ^ k ≡ x / 2 ^ k + 2 * 2 ^ (n - k - 1) = ap (λ (j : ℕ). (x + j) / 2 ^ k) split ∙ add-mul-div_left x (2 * 2 ^ (n - k - 1)) (pow_pos k) in
    ap (λ (j : ℕ). eqb (j % 2) 1) high ∙ ap (λ (j : ℕ). eqb j 1) (add-mul-mod_self_left (x / 2 ^ k) 2 (2 ^ (n - k - 1)))

top_bit : (x n : ℕ) (b : Bool) → x < 2 ^ n → has_bit (x + cond b (2 ^ n) 0) n ≡ b
top_bit x n true lt =
    let one : (x + 2 ^ n) / 2 ^ n ≡ 1 =
    let e : 2 ^ n ≡ 2 ^ n * 1 = omega arith in ap (λ (j : ℕ). (x + j) / 2 ^ n) e ∙ add-mul-div_left x 1 (pow_pos n) ∙ ap (λ (j : ℕ). j + 1) (div-eq_of_lt lt) in
    ap (λ (j : ℕ). eqb (j % 2) 1) one
top_bit x n false lt =
    let e : x + 0 ≡ x = omega arith in
    ap (λ (j : ℕ). eqb (j / 2 ^ n % 2) 1) e ∙ ap (λ (j : ℕ). eqb (j % 2) 1) (div-eq_of_lt lt)

pub bits_bit : (p : ℕ → Bool) (n k : ℕ) → k < n → has_bit (bits_of p n) k ≡ p k
unfolding bits_of
bits_bit p zero k lt = absurd (omega arith)
bits_bit p (suc n) k lt = elim (cases_lt k n) [
  | inl less ↦ low (p n) less ∙ bits_bit p n k less
  | inr le ↦ let e : k ≡ n = omega arith in subst (λ (j : ℕ). has_bit (bits_of p n + cond (p n) (2 ^ n) 0) j ≡ p j) (sym e) (top_bit (bits_of p n) n (p n) (bits_small p n))
]
  where
    low : (b : Bool) → k < n → has_bit (bits_of p n + cond b (2 ^ n) 0) k ≡ has_bit (bits_of p n) k
    low true less = low_bit (bits_of p n) n k less
    low false less = let e : bits_of p n + 0 ≡ bits_of p n = omega arith in ap (λ (j : ℕ). has_bit j k) e

pub shifted : (t : ℕ) → t < 64 → 1 * 2 ^ t % 2 ^ 64 ≡ 2 ^ t
shifted t lt = let e : 1 * 2 ^ t ≡ 2 ^ t = omega arith in ap (λ (n : ℕ). n % 2 ^ 64) e ∙ mod-eq_of_lt (pow-lt lt)

pub bits_fit : (p : ℕ → Bool) (t : ℕ) → t < 64 → bits_of p t + 2 ^ t < 2 ^ 64
bits_fit p t lt =
    let le : 2 ^ suc t ≤ 2 ^ 64 = pow-le-pow_right {n = 2} (omega arith) {i = suc t} {j = 64} (omega arith) in
    omega (arith, le, bits_small p t, pow-suc 2 t)

pub bits_yes : (p : ℕ → Bool) (t bits next : ℕ) → t < 64 → bits ≡ bits_of p t → p t ≡ true → next ≡ bits + 1 * 2 ^ t % 2 ^ 64 → next ≡ bits_of p (t + 1)
bits_yes p t bits next lt e there f =
    let more : bits_of p (t + 1) ≡ bits_of p t + 2 ^ t = bits_more p t ∙ ap (λ (b : Bool). bits_of p t + cond b (2 ^ t) 0) there in
    f ∙ ap (λ (n : ℕ). bits + n) (shifted t lt) ∙ ap (λ (n : ℕ). n + 2 ^ t) e ∙ sym more

pub bits_no : (p : ℕ → Bool) (t bits next : ℕ) → bits ≡ bits_of p t → p t ≡ false → next ≡ bits → next ≡ bits_of p (t + 1)
bits_no p t bits next e none f =
    let more : bits_of p (t + 1) ≡ bits_of p t + 0 = bits_more p t ∙ ap (λ (b : Bool). bits_of p t + cond b (2 ^ t) 0) none in
    omega (arith, e, f, more)

-- ---- tests of all

pub all_below : (xs : List ℕ) (n : ℕ) → ((k : ℕ) → get_or xs k 0 < n) → list_all (λ (x : ℕ). ltb x n) xs ≡ true
all_below [] n h = refl
all_below (x ∷ xs) n h = ap (λ (b : Bool). b && list_all (λ (y : ℕ). ltb y n) xs) (lt-ltb x n (h 0)) ∙ all_below xs n (λ k. h (suc k))

pub all_at : (p : ℕ → Bool) (xs : List ℕ) (k : ℕ) → list_all p xs ≡ true → k < length xs → p (get_or xs k 0) ≡ true
all_at p xs k all lt = elim (cases_Bool (p (get_or xs k 0))) [
  | inl e ↦ e
  | inr e ↦ absurd (apart (sym all ∙ list_all_at p xs k 0 lt e))
]
  where
    apart : true ≡ false → ⊥
    apart e = cc

pub all_range : (p : ℕ → Bool) (n k : ℕ) → list_all p (range_with_len 0 n) ≡ true → k < n → p k ≡ true
all_range p n k all lt =
    let here : get_or (range_with_len 0 n) k 0 ≡ k = get_or-range_with_len 0 n k 0 lt ∙ omega arith in
    ap p (sym here) ∙ all_at p (range_with_len 0 n) k all (omega (arith, lt, length-range_with_len 0 n))
