-- The number 0 in its three spellings: a count of no items.
use Rattle.std.proofs.Common.{◌≡◌, ◌==◌, ℕ, Bool, true, false, ◌||◌, List, [], ◌∷◌, refl, sym, subst, arith, inl, inr}
use Rattle.std.proofs.lemmas.Bool.{eqb-true}
use Rattle.cli_sigs.specs.Numbers.{IsPacked}
use Rattle.cli_sigs.specs.Reading.{this_byte, is_zero_head, nothing_after, no_items}
use Rattle.cli_sigs.proofs.Readers.{IsReader, Then, Nothing, IsByte, Choice, reads-bind, reads-pure, reads-byte, reads-choice, same_grammar}

abbrev pub IsZero : List ℕ → ℕ → Type 0
IsZero bs n = IsPacked bs n × (n ≡ 0)

abbrev is_zero : ℕ → Bool
is_zero b = b == 0

abbrev OneZero : List ℕ → ℕ → Type 0
OneZero = IsByte is_zero

abbrev zero_byte : IsReader OneZero (this_byte 0)
zero_byte = reads-byte is_zero 0 refl

abbrev After : ℕ → List ℕ → ℕ → Type 0
After a = Choice (a == 0x00) (Nothing 0) (Choice (a == 0x80) OneZero (Then OneZero (λ b. Then OneZero (λ c. OneZero))))

reads-after : (a : ℕ) → IsReader (After a) (nothing_after a)
unfolding nothing_after
reads-after a =
    reads-choice _ _ _ _ _ (reads-pure 0)
    (reads-choice _ _ _ _ _ zero_byte
    (reads-bind _ _ _ _ zero_byte (λ b f g. reads-bind _ _ _ _ zero_byte (λ c f g. zero_byte))))

third : (p q r : Bool) → (p || q || r) ≡ true → p ≡ false → q ≡ false → r ≡ true
third true q r h a b = absurd cc
third false true r h a b = absurd cc
third false false r h a b = h

head_0 : is_zero_head 0 ≡ true
head_0 = refl

to_zero : (bs : List ℕ) (n : ℕ) → Then (IsByte is_zero_head) After bs n → IsZero bs n
to_zero bs n (front, back, a, e, (f, h), inl (t, (g, v))) =
    let code : a ≡ 0 = eqb-true a 0 t in
    let all : bs ≡ 0 ∷ [] = cc in
    (subst (λ (l : List ℕ). IsPacked l n) (sym all) (omega arith, sym v), sym v)
to_zero bs n (front, back, a, e, (f, h), inr (t, inl (u, (q, z)))) =
    let code : a ≡ 128 = eqb-true a 128 u in
    let none : n ≡ 0 = eqb-true n 0 z in
    let all : bs ≡ 128 ∷ 0 ∷ [] = cc in
    (subst (λ (l : List ℕ). IsPacked l n) (sym all) (omega arith, omega arith, omega arith, omega arith), none)
to_zero bs n (front, back, a, e, (f, h), inr (t, inr (u, (x1, y1, b, p1, (q1, z1), (x2, y2, c, p2, (q2, z2), (q3, z3)))))) =
    let code : a ≡ 192 = eqb-true a 192 (third (a == 0) (a == 128) (a == 192) h t u) in
    let one : b ≡ 0 = eqb-true b 0 z1 in
    let two : c ≡ 0 = eqb-true c 0 z2 in
    let none : n ≡ 0 = eqb-true n 0 z3 in
    let all : bs ≡ 192 ∷ 0 ∷ 0 ∷ 0 ∷ [] = cc in
    (subst (λ (l : List ℕ). IsPacked l n) (sym all) (omega arith, omega arith, omega arith, omega arith, omega arith, omega arith), none)

abbrev Whole : List ℕ → ℕ → Type 0
Whole = Then (IsByte is_zero_head) After

whole_1 : Whole (0 ∷ []) 0
whole_1 = (0 ∷ [], [], 0, refl, (refl, refl), inl (refl, (refl, refl)))

whole_2 : Whole (128 ∷ 0 ∷ []) 0
whole_2 = (128 ∷ [], 0 ∷ [], 128, refl, (refl, refl), inr (refl, inl (refl, (refl, refl))))

whole_4 : Whole (192 ∷ 0 ∷ 0 ∷ 0 ∷ []) 0
whole_4 = (192 ∷ [], 0 ∷ 0 ∷ 0 ∷ [], 192, refl, (refl, refl), inr (refl, inr (refl, (0 ∷ [], 0 ∷ 0 ∷ [], 0, refl, (refl, refl), (0 ∷ [], 0 ∷ [], 0, refl, (refl, refl), (refl, refl))))))

moved : (bs cs : List ℕ) (n : ℕ) → bs ≡ cs → n ≡ 0 → Whole cs 0 → Whole bs n
moved bs cs n e z w = subst (λ (l : List ℕ). Whole l n) (sym e) (subst (λ (k : ℕ). Whole cs k) (sym z) w)

from_zero : (bs : List ℕ) (n : ℕ) → IsZero bs n → Whole bs n
from_zero [] n (h, z) = absurd h
from_zero (a ∷ []) n (h, z) =
    let code : a ≡ 0 = omega (arith, h.1) in
    moved (a ∷ []) (0 ∷ []) n (cc) z whole_1
from_zero (a ∷ b ∷ []) n (h, z) =
    let code : a ≡ 128 = omega (arith, h.0, h.2, h.3) in
    let one : b ≡ 0 = omega (arith, h.0, h.2, h.3) in
    moved (a ∷ b ∷ []) (128 ∷ 0 ∷ []) n (cc) z whole_2
from_zero (a ∷ b ∷ c ∷ []) n (h, z) = absurd h
from_zero (a ∷ b ∷ c ∷ d ∷ []) n (h, z) =
    let code : a ≡ 192 = omega (arith, h.0, h.5) in
    let one : b ≡ 0 = omega (arith, h.0, h.5) in
    let two : c ≡ 0 = omega (arith, h.0, h.5) in
    let three : d ≡ 0 = omega (arith, h.0, h.5) in
    moved (a ∷ b ∷ c ∷ d ∷ []) (192 ∷ 0 ∷ 0 ∷ 0 ∷ []) n (cc) z whole_4
from_zero (a ∷ b ∷ c ∷ d ∷ e ∷ bs) n (h, z) = absurd h

pub reads-zero : IsReader IsZero no_items
unfolding no_items
reads-zero = same_grammar Whole IsZero no_items (reads-bind _ _ _ _ (reads-byte is_zero_head 0 refl) (λ a f g. reads-after a)) to_zero from_zero
