-- One of a list passes a test, and has a place.
use Rattle.std.proofs.Common.{◌≡◌, ◌∙◌, ap, refl, ℕ, ◌+◌, List, [], ◌∷◌, ◌++◌, Bool, true, false, ◌||◌}
use Rattle.std.specs.Prelude.{cond, is_some, Some}
use Rattle.std.specs.List.{position_from}
use Rattle.set_names.specs.Cycles.{any}

pub some_place : {A : Type 0} (test : A → Bool) (i : ℕ) (l : List A) → any test l ≡ true → is_some (position_from test i l) ≡ true
some_place test i [] h = absurd cc
some_place test i (v ∷ l) h = go (test v) (some_place test (i + 1) l) h
  where
    go : (b : Bool) → (any test l ≡ true → is_some (position_from test (i + 1) l) ≡ true) → (b || any test l) ≡ true → is_some (cond b (Some i) (position_from test (i + 1) l)) ≡ true
    go true again e = refl
    go false again e = again e

or_true : (b : Bool) → (b || true) ≡ true
or_true true = refl
or_true false = refl

pub any_later : {A : Type 0} (test : A → Bool) (v : A) (l : List A) → any test l ≡ true → any test (v ∷ l) ≡ true
any_later test v l h = ap (λ (b : Bool). test v || b) h ∙ or_true (test v)

pub any_left : {A : Type 0} (test : A → Bool) (l more : List A) → any test l ≡ true → any test (l ++ more) ≡ true
any_left test [] more h = absurd cc
any_left test (v ∷ l) more h = go (test v) (any_left test l more) h
  where
    go : (b : Bool) → (any test l ≡ true → any test (l ++ more) ≡ true) → (b || any test l) ≡ true → (b || any test (l ++ more)) ≡ true
    go true again e = refl
    go false again e = again e

pub any_right : {A : Type 0} (test : A → Bool) (l more : List A) → any test more ≡ true → any test (l ++ more) ≡ true
any_right test [] more h = h
any_right test (v ∷ l) more h = any_later test v (l ++ more) (any_right test l more h)
