-- A search of a list from a place on.
use Rattle.std.proofs.Common.{◌≡◌, ℕ, ◌+◌, ◌<◌, ◌≤◌, Bool, true, false, cond, List, length, get_or, drop, Some, None, sym, ap, ◌∙◌}
use Rattle.std.specs.Prelude.{find, slice_get, unwrap_or}
use Rattle.std.proofs.lemmas.Option.{unwrap_or-slice_get}
use Rattle.std.proofs.lemmas.List.{at_drop_more, at_drop_all}

pub found_here : {X : Type 0} (test : X → Bool) (xs : List X) (k : ℕ) (d : X) → k < length xs → find test (drop k xs) ≡ find test xs → test (get_or xs k d) ≡ true → find test xs ≡ Some (get_or xs k d)
found_here test xs k d h inv yes' = sym inv ∙ at_drop_more (find test) xs k d h ∙ ap (λ (b : Bool). cond b (Some (get_or xs k d)) (find test (drop (k + 1) xs))) yes'

pub not_here : {X : Type 0} (test : X → Bool) (xs : List X) (k : ℕ) (d : X) → k < length xs → find test (drop k xs) ≡ find test xs → test (get_or xs k d) ≡ false → find test (drop (k + 1) xs) ≡ find test xs
not_here test xs k d h inv no' = sym (sym inv ∙ at_drop_more (find test) xs k d h ∙ ap (λ (b : Bool). cond b (Some (get_or xs k d)) (find test (drop (k + 1) xs))) no')

pub nowhere : {X : Type 0} (test : X → Bool) (xs : List X) (k : ℕ) → length xs ≤ k → find test (drop k xs) ≡ find test xs → find test xs ≡ None
nowhere test xs k h inv = sym inv ∙ at_drop_all (find test) xs k h

pub absent : {X : Type 0} (xs : List X) (k : ℕ) (d : X) → None ≡ slice_get xs k → d ≡ unwrap_or (slice_get xs k) d
absent xs k d e = ap (λ o. unwrap_or o d) e

pub past : {X : Type 0} (xs : List X) (k : ℕ) (d : X) → None ≡ slice_get xs k → d ≡ get_or xs k d
past xs k d e = absent xs k d e ∙ unwrap_or-slice_get xs k d
