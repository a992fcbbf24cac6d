-- A text that is printed in parts.
use Rattle.std.proofs.Common.{◌≡◌, ℕ, zero, suc, ◌<◌, ◌≤◌, List, [], ◌∷◌, ◌++◌, take, drop, get_or, length, refl, sym, ap, subst, ◌∙◌, append_assoc, take-append-drop, arith, OnErr}
use Rattle.std.specs.Prelude.{Result, Ok, Err}
use Rattle.std.specs.List.{flat_map, join_by}
use Rattle.run_texts.specs.Printed.{Begun}

pub on_err : {T E P : Type 0} (r : Result T E) → P → OnErr r P
on_err (Ok x) p = tt
on_err (Err e) p = p

-- the first part is begun
pub sooner : {old new : List ℕ} (a b : List ℕ) → Begun old a new → Begun old (a ++ b) new
sooner a b h = record {
  front = h.front;
  rest = h.rest ++ b;
  text_is = ap (λ z. z ++ b) h.text_is ∙ append_assoc h.front h.rest b;
  new_is = h.new_is;
}

-- the first part stands there, and the second is begun
pub later : {mid new : List ℕ} (old a b : List ℕ) → mid ≡ old ++ a → Begun mid b new → Begun old (a ++ b) new
later old a b e h = record {
  front = a ++ h.front;
  rest = h.rest;
  text_is = ap (λ z. a ++ z) h.text_is ∙ sym (append_assoc a h.front h.rest);
  new_is = h.new_is ∙ (ap (λ z. z ++ h.front) e ∙ append_assoc old a h.front);
}

-- so many items of the text stand there
pub so_many : (old text mid new : List ℕ) (i : ℕ) → mid ≡ old ++ take i text → new ≡ mid → Begun old text new
so_many old text mid new i e h = record {
  front = take i text;
  rest = drop i text;
  text_is = sym (take-append-drop i text);
  new_is = h ∙ e;
}

parted : {X : Type 0} (f : X → List ℕ) (xs : List X) (i : ℕ) (d : X) → i < length xs → flat_map f xs ≡ flat_map f (take i xs) ++ (f (get_or xs i d) ++ flat_map f (drop (suc i) xs))
parted f [] i d h = absurd (omega arith)
parted f (x ∷ xs) zero d h = refl
parted f (x ∷ xs) (suc i) d h =
    let l : i < length xs = omega arith in
    ap (λ z. f x ++ z) (parted f xs i d l) ∙ sym (append_assoc (f x) (flat_map f (take i xs)) (f (get_or xs i d) ++ flat_map f (drop (suc i) xs)))

-- the texts of so many items stand there, and that of the next is begun
pub next_begun : {X : Type 0} {mid new : List ℕ} (f : X → List ℕ) (old : List ℕ) (xs : List X) (i : ℕ) (d : X) → i < length xs
    → mid ≡ old ++ flat_map f (take i xs) → Begun mid (f (get_or xs i d)) new → Begun old (flat_map f xs) new
next_begun {new} f old xs i d l e h =
    let P : List ℕ → Type 0 = λ z. Begun old z new in
    subst P (sym (parted f xs i d l)) (later old (flat_map f (take i xs)) (f (get_or xs i d) ++ flat_map f (drop (suc i) xs)) e (sooner (f (get_or xs i d)) (flat_map f (drop (suc i) xs)) h))

-- the same of an item that is told by itself
pub next_begun_at : {X : Type 0} {mid new : List ℕ} (f : X → List ℕ) (old : List ℕ) (xs : List X) (i : ℕ) (x : X) → x ≡ get_or xs i x → i < length xs
    → mid ≡ old ++ flat_map f (take i xs) → Begun mid (f x) new → Begun old (flat_map f xs) new
next_begun_at {X} {mid} {new} f old xs i x is l e h =
    let P : X → Type 0 = λ z. Begun mid (f z) new in
    next_begun f old xs i x l e (subst P is h)

-- a list with parted items begins with its first
pub joined_at : {X : Type 0} (f : X → List ℕ) (sep : List ℕ) (xs : List X) (x : X) → x ≡ get_or xs 0 x → 1 ≤ length xs
    → join_by f sep xs ≡ f x ++ flat_map (λ y. sep ++ f y) (drop 1 xs)
joined_at f sep [] x is l = absurd (omega arith)
joined_at f sep (y ∷ ys) x is l = ap (λ z. f z ++ flat_map (λ w. sep ++ f w) ys) (sym is)
