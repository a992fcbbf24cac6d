-- Stores into places of a list.
use Rattle.std.proofs.Common.{◌≡◌, ◌∙◌, ap, refl, ℕ, List, ◌∷◌}
use Rattle.std.specs.Prelude.{Option, None, Some, option_and_then, option_map, slice_get, slice_set}
use Rattle.cil_model.specs.declared.value.Value.{Value}
use Rattle.cil_model.specs.declared.program.Program.{Program}
use Rattle.cil_semantics.specs.Frames.{set_in}
use Rattle.cil_semantics.specs.Places.{write_cell, write_path}
use Rattle.cil_semantics.specs.declared.Cell.{Cell}

-- what a store leaves in a place
abbrev pub left_at : Program → List ℕ → Value → List Cell → ℕ → Option Value
left_at p is v cs i = option_and_then (λ (c : Cell). write_path p is c.ty v c.value) (slice_get cs i)

pub not_set : (p : Program) (is : List ℕ) (v : Value) (cs : List Cell) (i : ℕ) → None ≡ left_at p is v cs i → None ≡ set_in p (i ∷ is) v cs
not_set p is v cs i e = cases (slice_get cs i) e
  where
    inner : (c : Cell) (o : Option Value) → None ≡ o → None ≡ option_map (slice_set cs i) (option_map (λ w. record { ty = c.ty; value = w }) o)
    inner c None h = refl
    inner c (Some w) h = absurd cc

    cases : (o : Option Cell) → None ≡ option_and_then (λ (c : Cell). write_path p is c.ty v c.value) o → None ≡ option_map (slice_set cs i) (option_and_then (write_cell p is v) o)
    cases None h = refl
    cases (Some c) h = inner c (write_path p is c.ty v c.value) h

-- the place, and what it holds then
pub some_set : (p : Program) (is : List ℕ) (v : Value) (cs ds : List Cell) (i : ℕ) (w : Value) → Some w ≡ left_at p is v cs i → ((c : Cell) → slice_get cs i ≡ Some c → ds ≡ slice_set cs i (record { ty = c.ty; value = w })) → Some ds ≡ set_in p (i ∷ is) v cs
some_set p is v cs ds i w e put = cases (slice_get cs i) refl e
  where
    inner : (c : Cell) (o : Option Value) → Some w ≡ o → ds ≡ slice_set cs i (record { ty = c.ty; value = w }) → Some ds ≡ option_map (slice_set cs i) (option_map (λ x. record { ty = c.ty; value = x }) o)
    inner c None h k = absurd cc
    inner c (Some x) h k = let q : w ≡ x = cc in ap Some (k ∙ ap (λ (y : Value). slice_set cs i (record { ty = c.ty; value = y })) q)

    cases : (o : Option Cell) → slice_get cs i ≡ o → Some w ≡ option_and_then (λ (c : Cell). write_path p is c.ty v c.value) o → Some ds ≡ option_map (slice_set cs i) (option_and_then (write_cell p is v) o)
    cases None k h = absurd cc
    cases (Some c) k h = inner c (write_path p is c.ty v c.value) h (put c k)
