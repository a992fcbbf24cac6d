-- Values that fit, one level of structs after another.
use Rattle.std.proofs.Common.{◌≡◌, ap, arith, refl, ℕ, zero, suc, ◌-◌, List, [], ◌∷◌, length}
use Rattle.std.specs.Prelude.{Bool, true, false, ◌&&◌}
use Rattle.cil_model.specs.declared.ty.Ty.{Ty}
use Rattle.cil_model.specs.declared.value.Value.{Value}
use Rattle.cil_model.specs.declared.program.Program.{Program}
use Rattle.cil_semantics.specs.Places.{storage}
use Rattle.cil_semantics.specs.declared.state.World.{World}
use Rattle.cil_semantics.specs.Outside.{all_fit, fits_storage, fits_within}

pub fit_step : (p : Program) (w : World) (depth : ℕ) (t : Ty) (v : Value) → (depth ≡ 0 → ⊥) → fits_storage p w (fits_within (depth - 1) p w) t v (storage p t) ≡ fits_within depth p w t v
unfolding fits_within
fit_step p w zero t v h = absurd (h refl)
fit_step p w (suc n) t v h = let e : suc n - 1 ≡ n = omega arith in ap (λ (m : ℕ). fits_storage p w (fits_within m p w) t v (storage p t)) e

pub no_fit : (p : Program) (w : World) (depth : ℕ) (t : Ty) (v : Value) → depth ≡ 0 → false ≡ fits_within depth p w t v
unfolding fits_within
no_fit p w zero t v e = refl
no_fit p w (suc n) t v e = absurd cc

pub other_lengths : (f : Ty → Value → Bool) (ts : List Ty) (vs : List Value) → (length ts ≡ length vs → ⊥) → false ≡ all_fit f ts vs
other_lengths f [] [] h = absurd (h refl)
other_lengths f [] (v ∷ vs) h = refl
other_lengths f (t ∷ ts) [] h = refl
other_lengths f (t ∷ ts) (v ∷ vs) h = cases (f t v) (other_lengths f ts vs (λ e. h (ap suc e)))
  where
    cases : (b : Bool) {r : Bool} → false ≡ r → false ≡ (b && r)
    cases false e = refl
    cases true e = e
