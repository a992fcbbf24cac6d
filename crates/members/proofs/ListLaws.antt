-- Small laws on functions, options and searches through a range.
use Rattle.std.proofs.Common.{◌≡◌, ◌∙◌, sym, ap, refl, arith, rules, ℕ, zero, suc, ◌+◌, ◌≤◌, ◌<◌, List, [], ◌∷◌, Bool, true, false}
use Rattle.std.specs.Prelude.{cond, find, option_map, ◌==◌, Option, Some, None}
use Rattle.std.specs.List.{range_with_len}

pub fun_same : {A B : Type 0} (f g : A → B) → ((a : A) → f a ≡ g a) → f ≡ g
fun_same f g h = λ i x. h x i

pub none_else : {A : Type 0} (o : Option A) → ((x : A) → o ≡ Some x → ⊥) → o ≡ None
none_else None h = refl
none_else (Some x) h = absurd (h x refl)

-- what a value that may be missing is seen as
pub none_mapped : {V A : Type 0} (o : Option V) (f : V → A) (b : Option A) → ((x : V) → o ≡ Some x → ⊥) → option_map f o ≡ b → None ≡ b
none_mapped None f b h e = e
none_mapped (Some x) f b h e = absurd (h x refl)

pub some_mapped : {V A : Type 0} (o : Option V) (f : V → A) (b : Option A) (x : V) → o ≡ Some x → option_map f o ≡ b → Some (f x) ≡ b
some_mapped o f b x s e = sym (ap (option_map f) s) ∙ e

pub find_none : (p : ℕ → Bool) (a n : ℕ) → ((r : ℕ) → a ≤ r → r < a + n → p r ≡ false) → find p (range_with_len a n) ≡ None
find_none p a zero h = refl
find_none p a (suc n) h =
    ap (λ (b : Bool). cond b (Some a) (find p (range_with_len (a + 1) n))) (h a (omega arith) (omega arith))
    ∙ find_none p (a + 1) n (λ r low high. h r (omega (arith, low)) (omega (arith, high)))

-- what passes, and nothing before it
pub find_first : (p : ℕ → Bool) (a n k : ℕ) → a ≤ k → k < a + n → p k ≡ true → ((r : ℕ) → a ≤ r → r < k → p r ≡ false) → find p (range_with_len a n) ≡ Some k
find_first p a zero k low high hit h = absurd (omega arith)
find_first p a (suc n) k low high hit h = go (a == k) refl (λ above. find_first p (a + 1) n k (omega (arith, above)) (omega (arith, high)) hit (λ r l u. h r (omega (arith, l)) u))
  where
    same : (a == k) ≡ true → a ≡ k
    same e = search (rules, e)

    differ : (a == k) ≡ false → a ≡ k → ⊥
    differ e f = search (rules, e, f)

    go : (b : Bool) → (a == k) ≡ b → (a < k → find p (range_with_len (a + 1) n) ≡ Some k) → find p (range_with_len a (suc n)) ≡ Some k
    go true e rest =
        let at : p a ≡ true = ap p (same e) ∙ hit in
        ap (λ (b : Bool). cond b (Some a) (find p (range_with_len (a + 1) n))) at ∙ ap (λ (j : ℕ). Some j) (same e)
    go false e rest =
        let other : a ≡ k → ⊥ = differ e in
        let above : a < k = omega (arith, low, other) in
        ap (λ (b : Bool). cond b (Some a) (find p (range_with_len (a + 1) n))) (h a (omega arith) above) ∙ rest above

-- what is found passes
pub found_passes : (p : ℕ → Bool) (l : List ℕ) (k : ℕ) → find p l ≡ Some k → p k ≡ true
found_passes p [] k e = absurd cc
found_passes p (x ∷ l) k e = go (p x) refl (found_passes p l k) e
  where
    go : (b : Bool) → p x ≡ b → (find p l ≡ Some k → p k ≡ true) → cond b (Some x) (find p l) ≡ Some k → p k ≡ true
    go true f rest g = let same : x ≡ k = cc in ap p (sym same) ∙ f
    go false f rest g = rest g
