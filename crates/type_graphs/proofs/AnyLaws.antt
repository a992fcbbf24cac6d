-- Whether a test holds of an element of a list, and tests of numbers.
use Rattle.std.proofs.Common.{◌≡◌, ◌∙◌, ap, refl, rules, ℕ, ◌+◌, ◌<◌, List, [], ◌∷◌, length, get_or, drop, Bool, true, false}
use Rattle.std.specs.Prelude.{◌||◌, ◌==◌}
use Rattle.std.proofs.lemmas.List.{at_drop_more}
use Rattle.set_names.specs.Cycles.{any}

pub or_true : (b : Bool) → (b || true) ≡ true
or_true true = refl
or_true false = refl

pub or_none : (b : Bool) → (b || false) ≡ b
or_none true = refl
or_none false = refl

pub or_group : (a b c : Bool) → ((a || b) || c) ≡ (a || (b || c))
or_group true b c = refl
or_group false b c = refl

or_first : (a b : Bool) → (a || b) ≡ false → a ≡ false
or_first true b e = absurd cc
or_first false b e = refl

or_second : (a b : Bool) → (a || b) ≡ false → b ≡ false
or_second true b e = absurd cc
or_second false b e = e

pub or_either : (x y : Bool) {P : Type 0} → (x ≡ true → P) → (y ≡ true → P) → (x || y) ≡ true → P
or_either true y f g e = f refl
or_either false y f g e = g e

pub or_neither : (x y : Bool) → x ≡ false → y ≡ false → (x || y) ≡ false
or_neither x y e f = ap (λ (b : Bool). b || y) e ∙ f

pub same_number : (k : ℕ) → (k == k) ≡ true
same_number k = search rules

pub any_here : {A : Type 0} (f : A → Bool) (x : A) (xs : List A) → f x ≡ true → any f (x ∷ xs) ≡ true
any_here f x xs e = ap (λ (b : Bool). b || any f xs) e

pub any_behind : {A : Type 0} (f : A → Bool) (x : A) (xs : List A) → any f xs ≡ true → any f (x ∷ xs) ≡ true
any_behind f x xs e = ap (λ (b : Bool). f x || b) e ∙ or_true (f x)

-- what one test implies
pub any_implies : {A : Type 0} (p f : A → Bool) → ((x : A) → p x ≡ true → f x ≡ true) → (xs : List A) → any p xs ≡ true → any f xs ≡ true
any_implies p f h [] e = absurd cc
any_implies p f h (x ∷ xs) e = or_either (p x) (any p xs) (λ d. any_here f x xs (h x d)) (λ d. any_behind f x xs (any_implies p f h xs d)) e

pub any_excludes : {A : Type 0} (p f : A → Bool) → ((x : A) → p x ≡ false → f x ≡ false) → (xs : List A) → any p xs ≡ false → any f xs ≡ false
any_excludes p f h [] e = refl
any_excludes p f h (x ∷ xs) e = or_neither (f x) (any f xs) (h x (or_first (p x) (any p xs) e)) (any_excludes p f h xs (or_second (p x) (any p xs) e))

-- tests that agree where a third one fails
pub any_alike : {A : Type 0} (p f g : A → Bool) → ((x : A) → p x ≡ false → f x ≡ g x) → (xs : List A) → any p xs ≡ false → any f xs ≡ any g xs
any_alike p f g h [] e = refl
any_alike p f g h (x ∷ xs) e =
    ap (λ (b : Bool). b || any f xs) (h x (or_first (p x) (any p xs) e))
    ∙ ap (λ (b : Bool). g x || b) (any_alike p f g h xs (or_second (p x) (any p xs) e))

-- one element more of a list that is gone over
pub any_on : {A : Type 0} (f : A → Bool) (xs : List A) (i : ℕ) (d : A) (b : Bool) → i < length xs → f (get_or xs i d) ≡ b → any f (drop i xs) ≡ (b || any f (drop (i + 1) xs))
any_on f xs i d b h e = at_drop_more (any f) xs i d h ∙ ap (λ (c : Bool). c || any f (drop (i + 1) xs)) e
