-- Arguments that are too few or too many, and the first method of its names.
use Rattle.std.proofs.Common.{◌≡◌, ap, refl, suc, List, [], ◌∷◌, length}
use Rattle.std.specs.Prelude.{Bool, true, false, ◌&&◌}
use Rattle.cil_model.specs.declared.ty.Ty.{Ty}
use Rattle.cil_model.specs.declared.value.Value.{Value}
use Rattle.cil_semantics.specs.Outside.{all_fit}

pub other_lengths : (f : Ty → Value → Bool) (ts : List Ty) (vs : List Value) → (length ts ≡ length vs → ⊥) → false ≡ all_fit f ts vs
other_lengths f [] [] h = absurd (h refl)
other_lengths f [] (v ∷ vs) h = refl
other_lengths f (t ∷ ts) [] h = refl
other_lengths f (t ∷ ts) (v ∷ vs) h = cases (f t v) (other_lengths f ts vs (λ e. h (ap suc e)))
  where
    cases : (b : Bool) {r : Bool} → false ≡ r → false ≡ (b && r)
    cases false e = refl
    cases true e = e
