-- The first piece from a number on is the first of what is left.
use Rattle.std.proofs.Common.{◌≡◌, ◌∙◌, ap, refl, ℕ, zero, suc, ◌+◌, List, [], ◌∷◌, Bool, drop, arith}
use Rattle.cil_semantics.specs.Contracted.{Piece}
use Rattle.cil_semantics.specs.Unwind.{first_from}

one_on : (i n : ℕ) → i + suc n ≡ i + 1 + n
one_on i n = omega arith

none_on : (i : ℕ) → i + 0 ≡ i
none_on i = omega arith

on_none : (n : ℕ) → n ≡ 0 + n
on_none n = omega arith

first_on : (test : Piece → Bool) (skip i : ℕ) (xs : List Piece) → first_from test zero (i + skip) (drop skip xs) ≡ first_from test skip i xs
first_on test zero i xs = ap (λ (k : ℕ). first_from test zero k xs) (none_on i)
first_on test (suc n) i [] = refl
first_on test (suc n) i (x ∷ xs) = ap (λ (k : ℕ). first_from test zero k (drop n xs)) (one_on i n) ∙ first_on test n (i + 1) xs

pub first_of_rest : (test : Piece → Bool) (skip : ℕ) (xs : List Piece) → first_from test 0 skip (drop skip xs) ≡ first_from test skip 0 xs
first_of_rest test skip xs = ap (λ (k : ℕ). first_from test 0 k (drop skip xs)) (on_none skip) ∙ first_on test skip 0 xs
