-- Where no type is above itself, looking further finds no more bases and no more types above.
use Rattle.std.proofs.Common.{◌≡◌, ℕ, zero, suc, ◌<◌, ◌≤◌, Bool, true, false, ◌⊎◌, inl, inr, List, [], ◌∷◌, ◌++◌, length, get_or, Option, Some, None, refl, sym, ap, ◌∙◌, arith}
use Rattle.std.specs.Prelude.{option_to_list, option_and_then, unwrap_or, find, if◌then◌else◌, ◌||◌, Contains}
use Rattle.std.proofs.lemmas.List.Elements.{Contains-append_cases}
use Rattle.cil_model.specs.declared.ty.Ty.{Ty}
use Rattle.cil_model.specs.declared.program.Program.{Program}
use Rattle.cil_semantics.specs.Words.{any, or_else, first_some}
use Rattle.cil_semantics.specs.Types.{same_ty}
use Rattle.cil_semantics.specs.Lookups.{base_of, interfaces_of, most_bases, chain, chain_within, chain_on, is_sub, is_sub_within}
use Rattle.cil_semantics.specs.Dispatch.{Seen, implementing, public_like, bases, interface_slot}
use Rattle.machine_laws.specs.Growth.{Ranked, LooksFarEnough}

no_element : {X : Type 0} (x : X) → Contains [] x → ⊥
no_element x c = absurd (omega (arith, c.1))

only_element : {X : Type 0} (y x : X) → Contains (y ∷ []) x → y ≡ x
only_element y x c = by_index c.0 c.1 c.2
  where
    by_index : (k : ℕ) → k < 1 → get_or (y ∷ []) k x ≡ x → y ≡ x
    by_index zero l e = e
    by_index (suc k) l e = absurd (omega arith)

pub first_element : {X : Type 0} (x : X) (xs : List X) → Contains (x ∷ xs) x
first_element x xs = (0, omega arith, refl)

pub later_element : {X : Type 0} (y x : X) (xs : List X) → Contains xs x → Contains (y ∷ xs) x
later_element y x xs c = (suc c.0, omega (arith, c.1), c.2)

contains_cases : {X : Type 0} (y x : X) (xs : List X) → Contains (y ∷ xs) x → (y ≡ x) ⊎ Contains xs x
contains_cases {X} y x xs c = by_index c.0 c.1 c.2
  where
    by_index : (k : ℕ) → k < suc (length xs) → get_or (y ∷ xs) k x ≡ x → (y ≡ x) ⊎ Contains xs x
    by_index zero l e = inl e
    by_index (suc k) l e = inr (k, omega arith, e)

some_injective : (x u : Ty) → Some x ≡ Some u → x ≡ u
some_injective x u e = ap (λ o. unwrap_or o x) e

find_contains : (f : Ty → Bool) (xs : List Ty) (u : Ty) → find f xs ≡ Some u → Contains xs u
find_contains f [] u e = absurd cc
find_contains f (x ∷ xs) u e = by_test (f x) e (λ d. find_contains f xs u d)
  where
    by_test : (b : Bool) → (if b then Some x else find f xs) ≡ Some u → (find f xs ≡ Some u → Contains xs u) → Contains (x ∷ xs) u
    by_test true d ih = (0, omega arith, some_injective x u d)
    by_test false d ih = later_element x u xs (ih d)

any_settles : (f g : Ty → Bool) (us : List Ty) → ((u : Ty) → Contains us u → f u ≡ g u) → any f us ≡ any g us
any_settles f g [] e = refl
any_settles f g (u ∷ us) e = ap (λ x. x || any f us) (e u (first_element u us)) ∙ ap (λ x. g u || x) (any_settles f g us (λ v c. e v (later_element u v us c)))

any_none : (f : Ty → Bool) (us : List Ty) → ((u : Ty) → Contains us u → ⊥) → any f us ≡ false
any_none f [] e = refl
any_none f (u ∷ us) e = absurd (e u (first_element u us))

or_false : (b : Bool) → (b || false) ≡ b
or_false true = refl
or_false false = refl

module _ (p : Program) (r : Ranked p) where
  -- a rank is above that of each type that stands above
  base_low : (n : ℕ) (t u : Ty) → r.rank t ≤ suc n → base_of p t ≡ Some u → r.rank u ≤ n
  base_low n t u le e = let lt : r.rank u < r.rank t = r.base t u e in omega arith

  no_base : (t u : Ty) → r.rank t ≤ 0 → base_of p t ≡ Some u → ⊥
  no_base t u le e = let lt : r.rank u < r.rank t = r.base t u e in absurd (omega arith)

  chain_zero : (n : ℕ) (t : Ty) → r.rank t ≤ 0 → chain_within n p t ≡ t ∷ []
  unfolding chain_within
  chain_zero zero t le = refl
  chain_zero (suc n) t le = by_base (base_of p t) refl
    where
      by_base : (o : Option Ty) → base_of p t ≡ o → (t ∷ chain_on (chain_within n p) o) ≡ t ∷ []
      by_base None e = refl
      by_base (Some u) e = absurd (no_base t u le e)

  -- two limits that are at least the rank give the same chain
  pub chain_settles : (n m : ℕ) (t : Ty) → r.rank t ≤ n → r.rank t ≤ m → chain_within n p t ≡ chain_within m p t
  unfolding chain_within
  chain_settles zero m t le lm = sym (chain_zero m t le)
  chain_settles (suc n) zero t le lm = chain_zero (suc n) t lm
  chain_settles (suc n) (suc m) t le lm = ap (λ l. t ∷ l) (by_base (λ u a b. chain_settles n m u a b) (base_of p t) refl)
    where
      by_base : ((u : Ty) → r.rank u ≤ n → r.rank u ≤ m → chain_within n p u ≡ chain_within m p u) → (o : Option Ty) → base_of p t ≡ o → chain_on (chain_within n p) o ≡ chain_on (chain_within m p) o
      by_base ih None e = refl
      by_base ih (Some u) e = ih u (base_low n t u le e) (base_low m t u lm e)

  -- the types just above a type
  abbrev parents : Ty → List Ty
  parents t = option_to_list (base_of p t) ++ interfaces_of p t

  low_of_base : (t u : Ty) (o : Option Ty) → base_of p t ≡ o → Contains (option_to_list o) u → r.rank u < r.rank t
  low_of_base t u None e c = absurd (no_element u c)
  low_of_base t u (Some v) e c = r.base t u (e ∙ ap Some (only_element v u c))

  low_by : (t u : Ty) → Contains (option_to_list (base_of p t)) u ⊎ Contains (interfaces_of p t) u → r.rank u < r.rank t
  low_by t u (inl c) = low_of_base t u (base_of p t) refl c
  low_by t u (inr c) = r.interfaces t u c

  low : (t u : Ty) → Contains (parents t) u → r.rank u < r.rank t
  low t u c = low_by t u (Contains-append_cases (option_to_list (base_of p t)) (interfaces_of p t) u c)

  sub_zero : (n : ℕ) (a b : Ty) → r.rank a ≤ 0 → is_sub_within n p a b ≡ same_ty a b
  unfolding is_sub_within
  sub_zero zero a b le = refl
  sub_zero (suc n) a b le =
      ap (λ x. same_ty a b || x) (any_none (λ c. is_sub_within n p c b) (parents a) (λ u c. let lt : r.rank u < r.rank a = low a u c in absurd (omega arith))) ∙ or_false (same_ty a b)

  -- and the same types above
  pub sub_settles : (n m : ℕ) (a b : Ty) → r.rank a ≤ n → r.rank a ≤ m → is_sub_within n p a b ≡ is_sub_within m p a b
  unfolding is_sub_within
  sub_settles zero m a b le lm = sym (sub_zero m a b le)
  sub_settles (suc n) zero a b le lm = sub_zero (suc n) a b lm
  sub_settles (suc n) (suc m) a b le lm =
      ap (λ x. same_ty a b || x)
      (any_settles (λ c. is_sub_within n p c b) (λ c. is_sub_within m p c b) (parents a)
      (λ u c. let lt : r.rank u < r.rank a = low a u c in let ln : r.rank u ≤ n = omega arith in let lk : r.rank u ≤ m = omega arith in sub_settles n m u b ln lk))

  -- the types of a chain are at most as high as its first
  chain_low : (n : ℕ) (t u : Ty) → Contains (chain_within n p t) u → r.rank u ≤ r.rank t
  unfolding chain_within
  chain_low zero t u c = let e : r.rank t ≡ r.rank u = ap r.rank (only_element t u c) in omega arith
  chain_low (suc n) t u c = by_part (λ v. chain_low n v u) (contains_cases t u (chain_on (chain_within n p) (base_of p t)) c)
    where
      by_base : (o : Option Ty) → base_of p t ≡ o → ((v : Ty) → Contains (chain_within n p v) u → r.rank u ≤ r.rank v) → Contains (chain_on (chain_within n p) o) u → r.rank u ≤ r.rank t
      by_base None e ih d = absurd (no_element u d)
      by_base (Some v) e ih d = let lt : r.rank v < r.rank t = r.base t v e in let le : r.rank u ≤ r.rank v = ih v d in omega arith

      by_part : ((v : Ty) → Contains (chain_within n p v) u → r.rank u ≤ r.rank v) → (t ≡ u) ⊎ Contains (chain_on (chain_within n p) (base_of p t)) u → r.rank u ≤ r.rank t
      by_part ih (inl e) = let f : r.rank t ≡ r.rank u = ap r.rank e in omega arith
      by_part ih (inr d) = by_base (base_of p t) refl ih d

  -- two limits above the rank find the same slot
  pub slot_settles : (n m : ℕ) (s : Seen) (t : Ty) → r.rank t < n → r.rank t < m → interface_slot n p s t ≡ interface_slot m p s t
  unfolding interface_slot
  slot_settles zero m s t l k = absurd (omega arith)
  slot_settles (suc n) zero s t l k = absurd (omega arith)
  slot_settles (suc n) (suc m) s t l k = by_type (find (λ u. any (same_ty s.0) (interfaces_of p u)) (chain p t)) refl (λ v a b. slot_settles n m s v a b)
    where
      by_base : (u : Ty) (o : Option Ty) → base_of p u ≡ o → r.rank u ≤ r.rank t → ((v : Ty) → r.rank v < n → r.rank v < m → interface_slot n p s v ≡ interface_slot m p s v)
          → option_and_then (interface_slot n p s) o ≡ option_and_then (interface_slot m p s) o
      by_base u None e le ih = refl
      by_base u (Some v) e le ih = let lt : r.rank v < r.rank u = r.base u v e in let a : r.rank v < n = omega arith in let b : r.rank v < m = omega arith in ih v a b

      by_type : (o : Option Ty) → find (λ u. any (same_ty s.0) (interfaces_of p u)) (chain p t) ≡ o → ((v : Ty) → r.rank v < n → r.rank v < m → interface_slot n p s v ≡ interface_slot m p s v)
          → option_and_then (λ u. or_else (implementing p s u) (or_else (option_and_then (interface_slot n p s) (base_of p u)) (first_some (public_like p s) (bases p u)))) o
          ≡ option_and_then (λ u. or_else (implementing p s u) (or_else (option_and_then (interface_slot m p s) (base_of p u)) (first_some (public_like p s) (bases p u)))) o
      by_type None e ih = refl
      by_type (Some u) e ih =
          let le : r.rank u ≤ r.rank t = chain_low (most_bases p) t u (find_contains _ (chain p t) u e) in
          ap (λ x. or_else (implementing p s u) (or_else x (first_some (public_like p s) (bases p u)))) (by_base u (base_of p u) refl le ih)

  pub far_enough : LooksFarEnough p
  unfolding is_sub
  far_enough =
      record {
        chains = λ n t le. let l : r.rank t ≤ n = omega (arith, r.within t) in let k : r.rank t ≤ most_bases p = omega (arith, r.within t) in chain_settles n (most_bases p) t l k;
        subs = λ n a b le. let l : r.rank a ≤ n = omega (arith, r.within a) in let k : r.rank a ≤ most_bases p = omega (arith, r.within a) in sub_settles n (most_bases p) a b l k;
        slots = λ n s t le. let l : r.rank t < n = omega (arith, r.within t) in slot_settles n (most_bases p) s t l (r.within t);
      }
