-- Values by row.
use Rattle.std.proofs.Common.{◌≡◌, ◌∙◌, sym, ap, arith, ℕ, ◌+◌, List, ◌++◌, ◌∷◌, []}
use Rattle.std.specs.Prelude.{map}
use Rattle.std.specs.List.{range_with_len}
use Rattle.std.proofs.lemmas.List.FromFn.{map-range_with_len_more}

pub row_more : {B : Type 0} (f : ℕ → B) (k : ℕ) (xs xs' : List B) (x : B) → xs' ≡ xs ++ x ∷ [] → x ≡ f (k + 1) → xs ≡ map f (range_with_len 1 k) → xs' ≡ map f (range_with_len 1 (k + 1))
row_more {B} f k xs xs' x e n h =
    e ∙ ap (λ (l : List B). l ++ x ∷ []) h ∙ ap (λ (o : B). map f (range_with_len 1 k) ++ o ∷ []) n
    ∙ sym (map-range_with_len_more f 1 k (k + 1) (omega arith))
