-- Whether a test holds of an element of a list, and what stands above types.
use Rattle.std.proofs.Common.{◌≡◌, ◌∙◌, sym, ap, refl, arith, ℕ, zero, suc, ◌<◌, ◌≤◌, ◌+◌, ◌-◌, List, [], ◌∷◌, ◌++◌, length, get_or, Bool, true, false}
use Rattle.std.specs.Prelude.{◌||◌}
use Rattle.cil_model.specs.declared.ty.Ty.{Ty}
use Rattle.cil_model.specs.declared.program.Program.{Program}
use Rattle.cil_semantics.specs.Lookups.{is_sub, is_sub_within, most_bases}
use Rattle.cil_semantics.specs.Types.{same_ty}
use Rattle.cil_semantics.specs.Words.{any}
use Rattle.look_ups.specs.Supers.{supers_of}

or_group : (a b c : Bool) → ((a || b) || c) ≡ (a || (b || c))
or_group true b c = refl
or_group false b c = refl

or_none : (a : Bool) → (a || false) ≡ a
or_none true = refl
or_none false = refl

pub any_append : {A : Type 0} (f : A → Bool) (xs ys : List A) → any f (xs ++ ys) ≡ (any f xs || any f ys)
any_append f [] ys = refl
any_append f (x ∷ xs) ys = ap (λ (b : Bool). f x || b) (any_append f xs ys) ∙ sym (or_group (f x) (any f xs) (any f ys))

pub any_last : {A : Type 0} (f : A → Bool) (xs : List A) (x : A) → any f (xs ++ x ∷ []) ≡ (any f xs || f x)
any_last f xs x = any_append f xs (x ∷ []) ∙ ap (λ (b : Bool). any f xs || b) (or_none (f x))

pub any_here : {A : Type 0} (f : A → Bool) (xs : List A) (k : ℕ) (d : A) → k < length xs → f (get_or xs k d) ≡ true → any f xs ≡ true
any_here f [] k d h e = absurd (omega arith)
any_here f (x ∷ xs) zero d h e = ap (λ (b : Bool). b || any f xs) e
any_here f (x ∷ xs) (suc k) d h e = ap (λ (b : Bool). f x || b) (any_here f xs k d (omega arith) e) ∙ go (f x)
  where
    go : (b : Bool) → (b || true) ≡ true
    go true = refl
    go false = refl

pub any_known : (b c : Bool) → (c ≡ true → b ≡ true) → b ≡ (b || c)
any_known true c h = refl
any_known false true h = h refl
any_known false false h = refl

any_or : {A : Type 0} (f g : A → Bool) (xs : List A) → any (λ x. f x || g x) xs ≡ (any f xs || any g xs)
any_or f g [] = refl
any_or f g (x ∷ xs) = ap (λ (b : Bool). (f x || g x) || b) (any_or f g xs) ∙ go (f x) (g x) (any f xs) (any g xs)
  where
    go : (a b c d : Bool) → ((a || b) || (c || d)) ≡ ((a || c) || (b || d))
    go true b c d = refl
    go false true true d = refl
    go false true false d = refl
    go false false c d = refl

-- one level further up
pub sub_on : (p : Program) (b : Ty) (level above : List Ty) (n k : ℕ) (whole : Bool) → k < n → any (λ (t : Ty). same_ty t b) level ≡ false
    → ((f : Ty → Bool) → any f above ≡ any (λ (t : Ty). any f (supers_of p t)) level)
    → any (λ (t : Ty). is_sub_within (n - k) p t b) level ≡ whole → any (λ (t : Ty). is_sub_within (n - (k + 1)) p t b) above ≡ whole
unfolding is_sub_within
sub_on p b level above n k whole below none over h =
    let m : n - k ≡ suc (n - (k + 1)) = omega (arith, below) in
    over (λ t. is_sub_within (n - (k + 1)) p t b)
    ∙ sym (ap (λ (c : Bool). c || any (λ (t : Ty). any (λ u. is_sub_within (n - (k + 1)) p u b) (supers_of p t)) level) none)
    ∙ sym (any_or (λ (t : Ty). same_ty t b) (λ (t : Ty). any (λ u. is_sub_within (n - (k + 1)) p u b) (supers_of p t)) level)
    ∙ sym (ap (λ (i : ℕ). any (λ (t : Ty). is_sub_within i p t b) level) m)
    ∙ h

-- one of the level is the same
or_true : (b : Bool) → (b || true) ≡ true
or_true true = refl
or_true false = refl

same_is_sub : (p : Program) (b : Ty) (i : ℕ) (u : Ty) → same_ty u b ≡ true → is_sub_within i p u b ≡ true
unfolding is_sub_within
same_is_sub p b zero u e = e
same_is_sub p b (suc i) u e = ap (λ (c : Bool). c || any (λ v. is_sub_within i p v b) (supers_of p u)) e

widened : (x y z w : Bool) → (x ≡ true → z ≡ true) → (y ≡ true → w ≡ true) → (x || y) ≡ true → (z || w) ≡ true
widened true y z w f g e = ap (λ (c : Bool). c || w) (f refl)
widened false y z w f g e = ap (λ (c : Bool). z || c) (g e) ∙ or_true z

all_sub : (p : Program) (b : Ty) (i : ℕ) (us : List Ty) → any (λ (u : Ty). same_ty u b) us ≡ true → any (λ (u : Ty). is_sub_within i p u b) us ≡ true
all_sub p b i [] e = absurd (cc e)
all_sub p b i (u ∷ us) e = widened (same_ty u b) (any (λ (v : Ty). same_ty v b) us) (is_sub_within i p u b) (any (λ (v : Ty). is_sub_within i p v b) us) (same_is_sub p b i u) (all_sub p b i us) e

pub sub_here : (p : Program) (b : Ty) (level : List Ty) (n : ℕ) (whole : Bool) → any (λ (t : Ty). same_ty t b) level ≡ true
    → any (λ (t : Ty). is_sub_within n p t b) level ≡ whole → true ≡ whole
sub_here p b level n whole here h = sym (all_sub p b n level here) ∙ h

pub sub_last : (p : Program) (b : Ty) (level : List Ty) (n k : ℕ) (whole : Bool) → n ≤ k → any (λ (t : Ty). is_sub_within (n - k) p t b) level ≡ whole → any (λ (t : Ty). same_ty t b) level ≡ whole
unfolding is_sub_within
sub_last p b level n k whole over h = let m : n - k ≡ 0 = omega (arith, over) in sym (ap (λ (i : ℕ). any (λ (t : Ty). is_sub_within i p t b) level) m) ∙ h

pub sub_first : (p : Program) (a b : Ty) (level : List Ty) → level ≡ a ∷ [] → any (λ (t : Ty). is_sub_within (most_bases p - 0) p t b) level ≡ is_sub p a b
unfolding is_sub
sub_first p a b level e = let m : most_bases p - 0 ≡ most_bases p = omega arith in ap (any (λ (t : Ty). is_sub_within (most_bases p - 0) p t b)) e ∙ or_none (is_sub_within (most_bases p - 0) p a b) ∙ ap (λ (i : ℕ). is_sub_within i p a b) m
