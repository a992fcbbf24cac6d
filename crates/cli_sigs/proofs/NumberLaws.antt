-- The shortest spellings of numbers.
use Rattle.std.proofs.Common.{◌≡◌, ℕ, ◌+◌, ◌*◌, ◌/◌, ◌%◌, ◌^◌, ◌<◌, ◌≤◌, Bool, true, false, cond, ltb, List, [], ◌∷◌, length, refl, sym, subst, arith}
use Rattle.std.proofs.lemmas.Int.{ints}
use Rattle.std.proofs.lemmas.Bool.{ltb-true, ltb-false}
use Rattle.std.specs.Prelude.{ℤ, pos, ◌-ℤ◌, ◌==◌}
use Rattle.cil_base.specs.Packed.{packed_spelling}
use Rattle.cli_sigs.specs.Numbers.{IsPacked, IsSigned, IsShortest, half_of, unrotated}
use Rattle.cli_sigs.specs.Valid.{Reaches}

-- ---- unsigned numbers

-- a spelling of one byte is below 0x80, and one of two below 0x4000
long : (bs : List ℕ) (n : ℕ) → IsPacked bs n → (0x80 ≤ n → 2 ≤ length bs) × (0x4000 ≤ n → 4 ≤ length bs)
long [] n h = absurd h
long (a ∷ []) n h = (λ k. absurd (omega (arith, h.0, h.1)), λ k. absurd (omega (arith, h.0, h.1)))
long (a ∷ b ∷ []) n h = (λ k. omega arith, λ k. absurd (omega (arith, h.1, h.2, h.3)))
long (a ∷ b ∷ c ∷ []) n h = absurd h
long (a ∷ b ∷ c ∷ d ∷ []) n h = (λ k. omega arith, λ k. omega arith)
long (a ∷ b ∷ c ∷ d ∷ e ∷ bs) n h = absurd h

some : (bs : List ℕ) (n : ℕ) → IsPacked bs n → 1 ≤ length bs
some [] n h = absurd h
some (a ∷ bs) n h = omega arith

by_tests : (n : ℕ) (t u : Bool) → ltb n 0x80 ≡ t → ltb n 0x4000 ≡ u → n < 2 ^ 29
    → IsShortest IsPacked (cond t (n ∷ []) (cond u ((0x80 + n / 2 ^ 8) ∷ (n % 2 ^ 8) ∷ []) ((0xC0 + n / 2 ^ 24) ∷ (n / 2 ^ 16 % 2 ^ 8) ∷ (n / 2 ^ 8 % 2 ^ 8) ∷ (n % 2 ^ 8) ∷ []))) n
by_tests n true u p q h = record { spelled = (ltb-true n 0x80 p, refl); least = λ other g. some other n g }
by_tests n false true p q h =
    let low : 0x80 ≤ n = ltb-false n 0x80 p in
    let high : n < 0x4000 = ltb-true n 0x4000 q in
    record { spelled = (omega arith, omega arith, omega arith, omega arith); least = λ other g. (long other n g).0 low }
by_tests n false false p q h =
    let low : 0x4000 ≤ n = ltb-false n 0x4000 q in
    record { spelled = (omega arith, omega arith, omega arith, omega arith, omega arith, omega arith); least = λ other g. (long other n g).1 low }

pub packed_shortest : (n : ℕ) → n < 2 ^ 29 → IsShortest IsPacked (packed_spelling n) n
packed_shortest n h = by_tests n (ltb n 0x80) (ltb n 0x4000) refl refl h

-- ---- signed numbers

by_parity : (half m : ℕ) (even : Bool) → m < half → Reaches half (cond even (pos m) (pos m -ℤ pos half))
by_parity half m true lt = (omega (arith, ints), omega (arith, ints))
by_parity half m false lt = (omega (arith, ints), omega (arith, ints))

pub reaches : (half u : ℕ) → u < 2 * half → Reaches half (unrotated half u)
reaches half u lt = by_parity half (u / 2) (u % 2 == 0) (omega arith)

reaches_at : (half u : ℕ) (z : ℤ) → z ≡ unrotated half u → u < 2 * half → Reaches half z
reaches_at half u z e lt = subst (Reaches half) (sym e) (reaches half u lt)

-- how long a spelling must be, by where it reaches
pub long_signed : (bs : List ℕ) (z : ℤ) → IsSigned bs z → (1 ≤ length bs) × ((Reaches 0x40 z → ⊥) → 2 ≤ length bs) × ((Reaches 0x40 z → ⊥) → (Reaches 0x2000 z → ⊥) → 4 ≤ length bs)
long_signed [] z (u, h, e) = absurd h
long_signed (a ∷ []) z (u, h, e) =
    let r : Reaches 0x40 z = reaches_at 0x40 u z e (omega (arith, h.0, h.1)) in
    (omega arith, λ n. absurd (n r), λ n m. absurd (n r))
long_signed (a ∷ b ∷ []) z (u, h, e) =
    let r : Reaches 0x2000 z = reaches_at 0x2000 u z e (omega (arith, h.1, h.2, h.3)) in
    (omega arith, λ n. omega arith, λ n m. absurd (m r))
long_signed (a ∷ b ∷ c ∷ []) z (u, h, e) = absurd h
long_signed (a ∷ b ∷ c ∷ d ∷ []) z (u, h, e) = (omega arith, λ n. omega arith, λ n m. omega arith)
long_signed (a ∷ b ∷ c ∷ d ∷ f ∷ bs) z (u, h, e) = absurd h

pub signed_one : (u : ℕ) (z : ℤ) → u < 0x80 → z ≡ unrotated 0x40 u → IsShortest IsSigned (u ∷ []) z
signed_one u z h e = record { spelled = (u, (h, refl), e); least = λ other g. (long_signed other z g).0 }

pub signed_two : (u : ℕ) (z : ℤ) → u < 0x4000 → z ≡ unrotated 0x2000 u → (Reaches 0x40 z → ⊥) → IsShortest IsSigned ((0x80 + u / 0x100) ∷ (u % 0x100) ∷ []) z
signed_two u z h e n = record { spelled = (u, (omega arith, omega arith, omega arith, omega arith), e); least = λ other g. (long_signed other z g).1 n }

pub signed_four : (u : ℕ) (z : ℤ) → u < 0x20000000 → z ≡ unrotated 0x10000000 u → (Reaches 0x40 z → ⊥) → (Reaches 0x2000 z → ⊥)
    → IsShortest IsSigned ((0xC0 + u / 0x1000000) ∷ (u / 0x10000 % 0x100) ∷ (u / 0x100 % 0x100) ∷ (u % 0x100) ∷ []) z
signed_four u z h e n m = record {
  spelled = (u, (omega arith, omega arith, omega arith, omega arith, omega arith, omega arith), e);
  least = λ other g. (long_signed other z g).2 n m;
}
