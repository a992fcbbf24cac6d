-- Numbers tell signatures apart.
use Rattle.std.proofs.Common.{◌≡◌, ◌∙◌, sym, ap, refl, arith, rules, ℕ, zero, suc, ◌+◌, ◌-◌, ◌≤◌, ◌<◌, List, [], ◌∷◌, length, get_or, Bool, true, false}
use Rattle.std.specs.Prelude.{cond, find, map, slice_get, bytes_eq, Option, Some, None, IfOk, Result, Ok, Err}
use Rattle.std.specs.List.{range_with_len}
use Rattle.set_names.specs.Names.{Noted, number_under, is_name, is_under, first_under}
use Rattle.descriptions.specs.Signatures.{place_or, place_in, signature_number, TellApart}

-- what is found is in the range, and passes
pub found_from : (p : ℕ → Bool) (a n k : ℕ) → find p (range_with_len a n) ≡ Some k → a ≤ k
found_from p a zero k e = absurd cc
found_from p a (suc n) k e = go (p a) (found_from p (a + 1) n k) e
  where
    go : (b : Bool) → (find p (range_with_len (a + 1) n) ≡ Some k → a + 1 ≤ k) → cond b (Some a) (find p (range_with_len (a + 1) n)) ≡ Some k → a ≤ k
    go true rest f = let same : a ≡ k = cc in omega (arith, same)
    go false rest f = let later : a + 1 ≤ k = rest f in omega (arith, later)

pub found_passes : (p : ℕ → Bool) (l : List ℕ) (k : ℕ) → find p l ≡ Some k → p k ≡ true
found_passes p [] k e = absurd cc
found_passes p (x ∷ l) k e = go (p x) refl (found_passes p l k) e
  where
    go : (b : Bool) → p x ≡ b → (find p l ≡ Some k → p k ≡ true) → cond b (Some x) (find p l) ≡ Some k → p k ≡ true
    go true f rest g = let same : x ≡ k = cc in ap p (sym same) ∙ f
    go false f rest g = rest g

-- what passes is found
pub is_found : (p : ℕ → Bool) (a n r : ℕ) → a ≤ r → r < a + n → p r ≡ true → find p (range_with_len a n) ≡ None → ⊥
is_found p a zero r low high hit e = absurd (omega (arith, low, high))
is_found p a (suc n) r low high hit e = go (p a) refl (λ after. is_found p (a + 1) n r after (omega (arith, high)) hit) e
  where
    go : (b : Bool) → p a ≡ b → (a + 1 ≤ r → find p (range_with_len (a + 1) n) ≡ None → ⊥) → cond b (Some a) (find p (range_with_len (a + 1) n)) ≡ None → ⊥
    go true f rest g = absurd cc
    go false f rest g =
        let other : a ≡ r → ⊥ = λ same. let both : ◌≡◌ {A = Bool} false true = sym f ∙ ap p same ∙ hit in absurd cc in
        rest (omega (arith, low, other)) g

same_bytes : (x y : List ℕ) → bytes_eq x y ≡ true → x ≡ y
same_bytes x y e = search (rules, e)

equal_bytes : (x : List ℕ) → bytes_eq x x ≡ true
equal_bytes x = search rules

named : (x : List ℕ) (o : Option (List ℕ)) → is_name x o ≡ true → o ≡ Some x
named x None e = absurd cc
named x (Some y) e = ap (λ (l : List ℕ). Some l) (sym (same_bytes x y e))

at_place : {A : Type 0} (xs : List A) (k : ℕ) (x d : A) → slice_get xs k ≡ Some x → get_or xs k d ≡ x
at_place [] k x d e = absurd cc
at_place (y ∷ xs) zero x d e = let same : y ≡ x = cc in same
at_place (y ∷ xs) (suc k) x d e = at_place xs k x d e

within : {A : Type 0} (xs : List A) (k : ℕ) (x : A) → slice_get xs k ≡ Some x → k < length xs
within [] k x e = absurd cc
within (y ∷ xs) zero x e = omega arith
within (y ∷ xs) (suc k) x e = let rest : k < length xs = within xs k x e in omega (arith, rest)

-- the first row of a signature that stands in the list
pub record First (all : List (Option (List ℕ))) (x : List ℕ) : Type 0 where
  pub row : ℕ
  pub from : 1 ≤ row
  pub is : first_under all x ≡ Some row
  pub holds : get_or all (row - 1) None ≡ Some x

first_of : (all : List (Option (List ℕ))) (j : ℕ) (x : List ℕ) → slice_get all j ≡ Some (Some x) → First all x
first_of all j x e = go (first_under all x) refl
  where
    here : (j + 1) - 1 ≡ j
    here = omega arith

    hit : is_under all x (j + 1) ≡ true
    hit = ap (λ (k : ℕ). is_name x (get_or all k None)) here ∙ ap (is_name x) (at_place all j (Some x) None e) ∙ equal_bytes x

    short : j < length all
    short = within all j (Some x) e

    go : (o : Option ℕ) → first_under all x ≡ o → First all x
    go None f = absurd (is_found (is_under all x) 1 (length all) (j + 1) (omega arith) (omega (arith, short)) hit f)
    go (Some row) f = record {
      row = row;
      from = found_from (is_under all x) 1 (length all) row f;
      is = f;
      holds = named x (get_or all (row - 1) None) (found_passes (is_under all x) (range_with_len 1 (length all)) row f);
    }

pub tell_apart : (all : List (Option (List ℕ))) → TellApart all
tell_apart all j k x y e f same =
    let a : First all x = first_of all j x e in
    let b : First all y = first_of all k y f in
    let numbers : a.row - 1 ≡ b.row - 1 = ap (place_or (length all)) (sym a.is) ∙ same ∙ ap (place_or (length all)) b.is in
    let held : ◌≡◌ {A = Option (List ℕ)} (Some x) (Some y) = sym a.holds ∙ ap (λ (n : ℕ). get_or all n None) numbers ∙ b.holds in
    cc

-- by a map of first rows
pub placed : (all : List (Option (List ℕ))) (found : Noted) → ((key : List ℕ) → number_under found key ≡ first_under all key) → (o : Option (List ℕ)) → place_in found (length all) o ≡ signature_number all o
placed all found h None = refl
placed all found h (Some x) = ap (place_or (length all)) (h x)

pub numbered : {V E : Type 0} (items : V → List ℕ) (all : List (Option (List ℕ))) (found : Noted) (count : ℕ) (result : Result V E) → ((key : List ℕ) → number_under found key ≡ first_under all key) → count ≡ length all
    → IfOk result (λ v. items v ≡ map (place_in found count) all) → IfOk result (λ v. items v ≡ map (signature_number all) all)
numbered items all found count (Ok v) h e f =
    f ∙ ap (λ (n : ℕ). map (place_in found n) all) e ∙ ap (λ (g : Option (List ℕ) → ℕ). map g all) (λ i o. placed all found h o i)
numbered items all found count (Err x) h e f = tt
