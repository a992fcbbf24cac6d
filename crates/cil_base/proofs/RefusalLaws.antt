-- The first test that fails is the first refusal, where the places of the tests don't fall.
use Rattle.std.proofs.Common.{◌≡◌, ℕ, ◌≤◌, Bool, true, false, cond, ltb, eqb, ◌||◌, ◌&&◌, List, [], ◌∷◌, Option, Some, None, refl, sym, ap, subst, ◌∙◌, inl, inr, arith, Result, Ok, Err}
use Rattle.std.specs.Prelude.{MatchOption}
use Rattle.std.proofs.lemmas.Bool.{ltb-false, le-ltb, eqb-true}
use Rattle.cil_base.proofs.Small.{or_neither}
use Rattle.cil_base.specs.declared.refusal.Refusal.{Refusal}
use Rattle.cil_base.specs.declared.refusal.Fault.{Fault}
use Rattle.cil_base.specs.declared.refusal.Fault.TheVariants.{Refused, Memory}
use Rattle.cil_base.specs.Refusals.{key, is_less, First, Test, Fails, first_of, IfRefused, OnRefused, IfMemory, OnMemory}

-- at the head: it is not less, and where it is equal the tails decide
pub head_of : (x y : ℕ) (xs ys : List ℕ) → is_less (x ∷ xs) (y ∷ ys) ≡ false → (y ≤ x) × (x ≡ y → is_less xs ys ≡ false)
head_of x y xs ys h =
    let p = or_neither (ltb x y) (eqb x y && is_less xs ys) h in
    (ltb-false x y p.0, λ same. sym (ap (λ (b : Bool). b && is_less xs ys) (same_test x y same)) ∙ p.1)
  where
    same_test : (a b : ℕ) → a ≡ b → eqb a b ≡ true
    same_test a b e = grind arith

pub not_less : (x y : ℕ) (xs ys : List ℕ) → y ≤ x → (x ≡ y → is_less xs ys ≡ false) → is_less (x ∷ xs) (y ∷ ys) ≡ false
not_less x y xs ys le tails = go (eqb x y) refl
  where
    go : (b : Bool) → eqb x y ≡ b → is_less (x ∷ xs) (y ∷ ys) ≡ false
    go true e = rw (le-ltb x y le, tails (eqb-true x y e)) (ap (λ (b : Bool). b && false) e)
    go false e = rw (le-ltb x y le, e) refl

pub less_trans : (xs ys zs : List ℕ) → is_less xs ys ≡ false → is_less ys zs ≡ false → is_less xs zs ≡ false
less_trans [] [] zs h k = k
less_trans [] (y ∷ ys) zs h k = absurd cc
less_trans (x ∷ xs) [] [] h k = refl
less_trans (x ∷ xs) [] (z ∷ zs) h k = absurd cc
less_trans (x ∷ xs) (y ∷ ys) [] h k = refl
less_trans (x ∷ xs) (y ∷ ys) (z ∷ zs) h k =
    let p = head_of x y xs ys h in
    let q = head_of y z ys zs k in
    not_less x z xs zs (omega arith) (λ same. less_trans xs ys zs (p.1 (omega arith)) (q.1 (omega arith)))

pub less_refl : (xs : List ℕ) → is_less xs xs ≡ false
less_refl [] = refl
less_refl (x ∷ xs) = not_less x x xs xs (omega arith) (λ same. less_refl xs)

-- the places don't fall from k on
abbrev pub Rises : List ℕ → List Test → Type 0
Rises k [] = Unit {0}
Rises k (t ∷ ts) = (is_less (key t.refusal) k ≡ false) × Rises (key t.refusal) ts

pub none_below : (k : List ℕ) (ts : List Test) → Rises k ts → (r : Refusal) → Fails ts r → is_less (key r) k ≡ false
none_below k [] h r f = absurd f
none_below k (t ∷ ts) h r (inl f) = subst (λ (s : Refusal). is_less (key s) k ≡ false) f.1 h.0
none_below k (t ∷ ts) h r (inr f) = less_trans (key r) (key t.refusal) k (none_below (key t.refusal) ts h.1 r f) h.0

pub first_is_first : (k : List ℕ) (ts : List Test) → Rises k ts → MatchOption (first_of ts) ((r : Refusal) → Fails ts r → ⊥) (First (Fails ts))
first_is_first k [] h = λ r f. f
first_is_first k (t ∷ ts) h = go (first_is_first (key t.refusal) ts h.1) t.fails refl
  where
    later : (b : Bool) (o : Option Refusal) → t.fails ≡ false → MatchOption o ((r : Refusal) → Fails ts r → ⊥) (First (Fails ts)) → MatchOption o ((r : Refusal) → Fails (t ∷ ts) r → ⊥) (First (Fails (t ∷ ts)))
    later b None e m = λ r. elim [ inl f ↦ absurd cc | inr f ↦ m r f ]
    later b (Some s) e m = record { broken = inr m.broken; none_before = λ r. elim [ inl f ↦ absurd cc | inr f ↦ m.none_before r f ] }

    go : MatchOption (first_of ts) ((r : Refusal) → Fails ts r → ⊥) (First (Fails ts)) → (b : Bool) → t.fails ≡ b → MatchOption (cond b (Some t.refusal) (first_of ts)) ((r : Refusal) → Fails (t ∷ ts) r → ⊥) (First (Fails (t ∷ ts)))
    go m true e = record { broken = inl (e, refl); none_before = λ r. elim [ inl f ↦ subst (λ (s : Refusal). is_less (key s) (key t.refusal) ≡ false) f.1 (less_refl (key t.refusal)) | inr f ↦ none_below (key t.refusal) ts h.1 r f ] }
    go m false e = later false (first_of ts) e m

-- ---- what a call answers

pub IfRefused-weaker : (fault : Fault) (P Q : Refusal → Type 0) → ((r : Refusal) → P r → Q r) → IfRefused fault P → IfRefused fault Q
IfRefused-weaker (Refused r) P Q f h = f r h
IfRefused-weaker (Memory e) P Q f h = tt

pub OnRefused-weaker : {T : Type 0} (result : Result T Fault) (P Q : Refusal → Type 0) → ((r : Refusal) → P r → Q r) → OnRefused result P → OnRefused result Q
OnRefused-weaker (Ok x) P Q f h = tt
OnRefused-weaker (Err fault) P Q f h = IfRefused-weaker fault P Q f h

pub IfMemory-weaker : (fault : Fault) (P Q : Type 0) → (P → Q) → IfMemory fault P → IfMemory fault Q
IfMemory-weaker (Refused r) P Q f h = tt
IfMemory-weaker (Memory e) P Q f h = f h

pub OnMemory-weaker : {T : Type 0} (result : Result T Fault) (P Q : Type 0) → (P → Q) → OnMemory result P → OnMemory result Q
OnMemory-weaker (Ok x) P Q f h = tt
OnMemory-weaker (Err fault) P Q f h = IfMemory-weaker fault P Q f h
