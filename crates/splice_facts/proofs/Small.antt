-- Arithmetic on small depths.
use Rattle.std.proofs.Common.{◌≡◌, ℕ, ◌+◌, ◌≤◌, true, false, ap, ◌∙◌, arith}
use Rattle.std.specs.Prelude.{pos, negsuc, int_lt, nat_lt, nat_le, if◌then◌else◌, ◌^◌, ◌%◌, ◌-◌}
use Rattle.std.specs.Int.{w32, int_wrapping_add, int_wrapping_sub}
use Rattle.std.proofs.lemmas.Int.{ints}
use Rattle.cil_semantics.specs.Numbers.{truncated, as_signed}

pub one_more : (d : ℕ) → d ≤ 200 → int_wrapping_add w32 (pos d) (pos 1) ≡ pos (d + 1)
one_more d le = omega (arith, ints, le)

pub one_less : (d : ℕ) → d ≤ 200 → int_wrapping_sub w32 (pos (d + 1)) (pos 1) ≡ pos d
one_less d le = omega (arith, ints, le)

pub uncut : (d : ℕ) → d ≤ 200 → truncated 32 true (pos d) ≡ pos d
uncut d le =
    let m : d % 2 ^ 32 ≡ d = omega (arith, le) in
    ap (λ v. as_signed 32 v) m ∙ ap (λ b. if b then pos d else negsuc (2 ^ 32 - 1 - d)) (is_low d le)
  where
    is_low : (v : ℕ) → v ≤ 200 → nat_lt v (2 ^ 31) ≡ true
    is_low v l = grind (arith, l)

-- the guard's test
pub deeper : (d g : ℕ) → int_lt (pos g) (pos d) ≡ true → nat_le d g ≡ false
deeper d g e = grind (arith, ints)

pub guarded : (d g : ℕ) → nat_le d g ≡ true → int_lt (pos g) (pos d) ≡ false
guarded d g e = grind (arith, ints)

pub over : (d g : ℕ) → nat_le d g ≡ false → int_lt (pos g) (pos d) ≡ true
over d g e = grind (arith, ints)

pub none_needed : (n : ℕ) → nat_le 0 n ≡ true
none_needed n = grind arith
