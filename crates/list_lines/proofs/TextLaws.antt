-- The text of so many items, and of one more.
use Rattle.std.proofs.Common.{◌≡◌, ◌∙◌, sym, ap, arith, ℕ, zero, suc, ◌+◌, ◌<◌, List, [], ◌∷◌, ◌++◌, length, take, get_or, append_assoc, append-nil}
use Rattle.std.specs.List.{flat_map}

one_more : {X : Type 0} (f : X → List ℕ) (xs : List X) (i : ℕ) (d : X) → i < length xs → flat_map f (take (suc i) xs) ≡ flat_map f (take i xs) ++ f (get_or xs i d)
one_more f [] i d h = absurd (omega arith)
one_more f (x ∷ xs) zero d h = append-nil (f x)
one_more f (x ∷ xs) (suc i) d h =
    let l : i < length xs = omega arith in
    ap (λ z. f x ++ z) (one_more f xs i d l) ∙ sym (append_assoc (f x) (flat_map f (take i xs)) (f (get_or xs i d)))

-- behind the texts of so many items that of the next one
pub next_text : {X : Type 0} (f : X → List ℕ) (old mid new : List ℕ) (xs : List X) (i : ℕ) (x : X) → x ≡ get_or xs i x → i < length xs → mid ≡ old ++ flat_map f (take i xs) → new ≡ mid ++ f x → new ≡ old ++ flat_map f (take (i + 1) xs)
next_text {X} f old mid new xs i x is l e n =
    let after : suc i ≡ i + 1 = omega arith in
    n ∙ ap (λ z. z ++ f x) e ∙ append_assoc old (flat_map f (take i xs)) (f x)
    ∙ ap (λ (y : X). old ++ (flat_map f (take i xs) ++ f y)) is
    ∙ ap (λ z. old ++ z) (sym (one_more f xs i x l))
    ∙ ap (λ (j : ℕ). old ++ flat_map f (take j xs)) after
