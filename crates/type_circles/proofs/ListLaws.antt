-- Lists by node or row, one item more.
use Rattle.std.proofs.Common.{◌≡◌, ◌∙◌, sym, ap, arith, ℕ, ◌+◌, ◌<◌, List, [], ◌∷◌, ◌++◌, length, get_or, drop}
use Rattle.std.specs.Prelude.{map, Some, None, slice_get, unwrap_or}
use Rattle.std.proofs.lemmas.Option.{unwrap_or-slice_get}
use Rattle.std.specs.List.{range_with_len, flat_map}
use Rattle.std.proofs.lemmas.List.{append_assoc, at_drop_more}
use Rattle.std.proofs.lemmas.List.FromFn.{fill_by_all, get_or-map-range_with_len, length-map-range_with_len, map-range_with_len_more}

pub list_push : {A : Type 0} (f : ℕ → A) (k : ℕ) (xs xs' : List A) (x : A) → xs' ≡ xs ++ x ∷ [] → x ≡ f k → xs ≡ map f (range_with_len 0 k) → xs' ≡ map f (range_with_len 0 (k + 1))
list_push {A} f k xs xs' x e n h =
    e ∙ ap (λ (l : List A). l ++ x ∷ []) h ∙ ap (λ (o : A). map f (range_with_len 0 k) ++ o ∷ []) n
    ∙ sym (map-range_with_len_more f 0 k k (omega arith))

pub row_push : {A : Type 0} (f : ℕ → A) (k : ℕ) (xs xs' : List A) (x : A) → xs' ≡ xs ++ x ∷ [] → x ≡ f (k + 1) → xs ≡ map f (range_with_len 1 k) → xs' ≡ map f (range_with_len 1 (k + 1))
row_push {A} f k xs xs' x e n h =
    e ∙ ap (λ (l : List A). l ++ x ∷ []) h ∙ ap (λ (o : A). map f (range_with_len 1 k) ++ o ∷ []) n
    ∙ sym (map-range_with_len_more f 1 k (k + 1) (omega arith))

pub map_on : {A : Type 0} (d : A) (f g : ℕ → A) (n : ℕ) → ((k : ℕ) → k < n → f k ≡ g k) → map f (range_with_len 0 n) ≡ map g (range_with_len 0 n)
map_on d f g n h = fill_by_all g (map f (range_with_len 0 n)) n d (length-map-range_with_len f 0 n) (λ k w. get_or-map-range_with_len f 0 n k k d w (omega arith) ∙ h k w)

-- what one element of a list that is gone over gives
pub flat_on : {A : Type 0} (f : ℕ → List A) (out out' p whole : List A) (xs : List ℕ) (i : ℕ) → i < length xs → out' ≡ out ++ p → p ≡ f (get_or xs i 0) → out ++ flat_map f (drop i xs) ≡ whole → out' ++ flat_map f (drop (i + 1) xs) ≡ whole
flat_on {A} f out out' p whole xs i h e q w =
    ap (λ (l : List A). l ++ flat_map f (drop (i + 1) xs)) e
    ∙ append_assoc out p (flat_map f (drop (i + 1) xs))
    ∙ ap (λ (l : List A). out ++ (l ++ flat_map f (drop (i + 1) xs))) q
    ∙ sym (ap (λ (l : List A). out ++ l) (at_drop_more (flat_map f) xs i 0 h))
    ∙ w

pub past : {X : Type 0} (xs : List X) (k : ℕ) (d : X) → None ≡ slice_get xs k → d ≡ get_or xs k d
past xs k d e = ap (λ o. unwrap_or o d) e ∙ unwrap_or-slice_get xs k d

pub present : {X : Type 0} (xs : List X) (k : ℕ) (d x : X) → Some x ≡ slice_get xs k → x ≡ get_or xs k d
present xs k d x e = ap (λ o. unwrap_or o d) e ∙ unwrap_or-slice_get xs k d
