-- Small lemmas on tests, lists and results that several crates need.
use Rattle.std.proofs.Common.{◌≡◌, ℕ, suc, ◌-◌, ◌<◌, ◌≤◌, Bool, true, false, eqb, ltb, not, ◌&&◌, ◌||◌, List, [], ◌∷◌, length, take, drop, Result, Ok, Err, refl, sym, arith}
use Rattle.std.specs.Prelude.{OnOk, IfOk}
use Rattle.std.proofs.lemmas.Bool.{eqb-true, ltb-true}
use Rattle.std.proofs.lemmas.List.{take_all, length-drop}

-- ---- tests

-- a fact by what a test says
pub decide : {P : Type 0} (b : Bool) → (b ≡ true → P) → (b ≡ false → P) → P
decide true t f = t refl
decide false t f = f refl

pub and_both : (b c : Bool) → (b && c) ≡ true → (b ≡ true) × (c ≡ true)
and_both true c h = (refl, h)
and_both false c h = absurd cc

pub or_neither : (b c : Bool) → (b || c) ≡ false → (b ≡ false) × (c ≡ false)
or_neither true c h = absurd cc
or_neither false c h = (refl, h)

pub not_true : (b : Bool) → not b ≡ true → b ≡ false
not_true true h = absurd cc
not_true false h = refl

pub not_false : (b : Bool) → not b ≡ false → b ≡ true
not_false true h = refl
not_false false h = absurd cc

pub never_true : (b : Bool) → (b ≡ true → ⊥) → b ≡ false
never_true true h = absurd (h refl)
never_true false h = refl

pub equal : (m n : ℕ) → eqb m n ≡ true → m ≡ n
equal m n h = eqb-true m n h

pub less : (m n : ℕ) → ltb m n ≡ true → m < n
less m n h = ltb-true m n h

-- ---- lists

pub nil_from_length : {A : Type 0} (xs : List A) → length xs ≡ 0 → xs ≡ []
nil_from_length [] h = refl
nil_from_length (x ∷ xs) h = absurd (omega arith)

pub take_rest : (at : ℕ) (xs : List ℕ) → take (length xs - at) (drop at xs) ≡ drop at xs
take_rest at xs = take_all (length xs - at) (drop at xs) (omega (arith, length-drop at xs))

-- ---- results

pub on_ok : {T E : Type 0} {P Q : Type 0} (r : Result T E) → (P → Q) → OnOk r P → OnOk r Q
on_ok (Ok x) f h = f h
on_ok (Err e) f h = tt

-- what is known of the value gives what is asked where there is one
pub on_ok_if : {T E : Type 0} {Q : Type 0} (P : T → Type 0) (r : Result T E) → ((x : T) → P x → Q) → IfOk r P → OnOk r Q
on_ok_if P (Ok x) f h = f x h
on_ok_if P (Err e) f h = tt

pub if_ok : {T E : Type 0} (P Q : T → Type 0) (r : Result T E) → ((x : T) → P x → Q x) → IfOk r P → IfOk r Q
if_ok P Q (Ok x) f h = f x h
if_ok P Q (Err e) f h = tt

pub same_ok : {T E : Type 0} (x y : T) (r : Result T E) → r ≡ Ok x → r ≡ Ok y → x ≡ y
same_ok x y r h k = cc

pub same_err : {T E : Type 0} (x y : E) (r : Result T E) → r ≡ Err x → r ≡ Err y → x ≡ y
same_err x y r h k = cc

-- an answer is one of the two
pub not_both : {T E : Type 0} (x : T) (e : E) (r : Result T E) → r ≡ Ok x → r ≡ Err e → ⊥
not_both x e r h k = cc
