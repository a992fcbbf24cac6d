-- So many values and none are so many.
use Rattle.std.proofs.Common.{◌≡◌, ℕ, suc, ◌+◌, Option, Some, sym, ap, ◌∙◌, arith}

none_more : (n : ℕ) → n + 0 ≡ n
none_more n = omega arith

pub and_none : (n : ℕ) (o : Option ℕ) → Some n ≡ o → Some (n + 0) ≡ o
and_none n o e = ap (λ (m : ℕ). Some m) (none_more n) ∙ e

pub but_none : (n : ℕ) (o : Option ℕ) → Some (n + 0) ≡ o → Some n ≡ o
but_none n o e = sym (ap (λ (m : ℕ). Some m) (none_more n)) ∙ e

one_more : (n : ℕ) → n + 1 ≡ suc n
one_more n = omega arith

pub and_one : (n : ℕ) (o : Option ℕ) → Some (n + 1) ≡ o → Some (suc n) ≡ o
and_one n o e = sym (ap (λ (m : ℕ). Some m) (one_more n)) ∙ e
