-- The first refusal, place by place.
use Rattle.std.proofs.Common.{◌≡◌, ℕ, zero, suc, subst, ◌+◌, ◌<◌, Bool, true, false, List, [], ◌∷◌, ◌++◌, length, get_or, drop, refl, sym, ap, ◌∙◌, arith, cond}
use Rattle.std.specs.Prelude.{Option, Some, None, is_some, slice_get}
use Rattle.std.specs.List.{enumerate_from, flat_map}
use Rattle.std.proofs.Math.Seq.{drop-cons}
use Rattle.cil_base.specs.declared.refusal.Refusal.{Refusal}
use Rattle.cil_base.specs.Refusals.{Test, first_of}
use Rattle.cil_semantics.specs.Words.{or_else}
use Rattle.cil_model.specs.declared.body.Instr.{Instr}

first_of-cons : (b : Bool) (r : Refusal) (ts us : List Test) → first_of (ts ++ us) ≡ or_else (first_of ts) (first_of us) → cond b (Some r) (first_of (ts ++ us)) ≡ or_else (cond b (Some r) (first_of ts)) (first_of us)
first_of-cons true r ts us h = refl
first_of-cons false r ts us h = h

pub first_of-append : (ts us : List Test) → first_of (ts ++ us) ≡ or_else (first_of ts) (first_of us)
first_of-append [] us = refl
first_of-append (t ∷ ts) us = first_of-cons t.fails t.refusal ts us (first_of-append ts us)

pub or_else-some : (o rest : Option Refusal) → is_some o ≡ true → or_else o rest ≡ o
or_else-some None rest h = absurd (cc)
or_else-some (Some r) rest h = refl

pub or_else-none : (o rest : Option Refusal) → is_some o ≡ false → or_else o rest ≡ rest
or_else-none None rest h = refl
or_else-none (Some r) rest h = absurd (cc)

-- the tests of the places from one on
pub first-drop : (f : ℕ × Instr → List Test) (is : List Instr) (k : ℕ) (i : Instr) → k < length is → i ≡ get_or is k i
    → first_of (flat_map f (enumerate_from k (drop k is))) ≡ or_else (first_of (f (k, i))) (first_of (flat_map f (enumerate_from (k + 1) (drop (k + 1) is))))
first-drop f is k i h e =
    let one : suc k ≡ k + 1 = omega arith in
    ap (λ (js : List Instr). first_of (flat_map f (enumerate_from k js))) (drop-cons is k i h ∙ ap (λ (j : Instr). j ∷ drop (suc k) is) (sym e) ∙ ap (λ (n : ℕ). i ∷ drop n is) one)
    ∙ first_of-append (f (k, i)) (flat_map f (enumerate_from (k + 1) (drop (k + 1) is)))

below : (l : List Instr) (n : ℕ) (i : Instr) → Some i ≡ slice_get l n → n < length l
below [] n i h = absurd cc
below (x ∷ xs) zero i h = omega arith
below (x ∷ xs) (suc n) i h = let e = below xs n i h in omega arith

-- a place at which an instruction stands lies in the code
pub stands_within : (is js : List Instr) (k : ℕ) (i : Instr) → js ≡ is → Some i ≡ slice_get js k → k < length is
stands_within is js k i e h = subst (λ (l : List Instr). k < length l) e (below js k i h)
