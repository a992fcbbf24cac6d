-- A search from a number on is a search through what is left.
use Rattle.std.proofs.Common.{◌≡◌, ◌∙◌, ap, refl, ℕ, zero, suc, ◌+◌, List, [], ◌∷◌, Bool, drop, arith}
use Rattle.cil_base.specs.declared.token.Token.{Token}
use Rattle.cil_model.specs.declared.body.Region.{Region}
use Rattle.cil_semantics.specs.Unwind.{left_from, search_from}

one_on : (i n : ℕ) → i + suc n ≡ i + 1 + n
one_on i n = omega arith

none_on : (i : ℕ) → i + 0 ≡ i
none_on i = omega arith

on_none : (n : ℕ) → n ≡ 0 + n
on_none n = omega arith

searches_on : (c : Token → Bool) (skip i q : ℕ) (rs : List Region) → search_from c zero (i + skip) q (drop skip rs) ≡ search_from c skip i q rs
searches_on c zero i q rs = ap (λ (k : ℕ). search_from c zero k q rs) (none_on i)
searches_on c (suc n) i q [] = refl
searches_on c (suc n) i q (r ∷ rs) = ap (λ (k : ℕ). search_from c zero k q (drop n rs)) (one_on i n) ∙ searches_on c n (i + 1) q rs

leaves_on : (skip i q t : ℕ) (rs : List Region) → left_from zero (i + skip) q t (drop skip rs) ≡ left_from skip i q t rs
leaves_on zero i q t rs = ap (λ (k : ℕ). left_from zero k q t rs) (none_on i)
leaves_on (suc n) i q t [] = refl
leaves_on (suc n) i q t (r ∷ rs) = ap (λ (k : ℕ). left_from zero k q t (drop n rs)) (one_on i n) ∙ leaves_on n (i + 1) q t rs

pub searches : (c : Token → Bool) (skip q : ℕ) (rs : List Region) → search_from c 0 skip q (drop skip rs) ≡ search_from c skip 0 q rs
searches c skip q rs = ap (λ (k : ℕ). search_from c 0 k q (drop skip rs)) (on_none skip) ∙ searches_on c skip 0 q rs

pub leaves : (skip q t : ℕ) (rs : List Region) → left_from 0 skip q t (drop skip rs) ≡ left_from skip 0 q t rs
leaves skip q t rs = ap (λ (k : ℕ). left_from 0 k q t (drop skip rs)) (on_none skip) ∙ leaves_on skip 0 q t rs
