-- Default values, one level of structs after another.
use Rattle.std.proofs.Common.{◌≡◌, ap, arith, refl, subst, ℕ, zero, suc, ◌-◌, []}
use Rattle.std.specs.Prelude.{Result, IfOk}
use Rattle.cil_model.specs.declared.ty.Ty.{Ty}
use Rattle.cil_model.specs.declared.value.Value.{Value, Opaque}
use Rattle.cil_model.specs.declared.program.Program.{Program}
use Rattle.cil_semantics.specs.Places.{default_by_storage, default_within, field_types, storage}

pub default_step : (p : Program) (depth : ℕ) (t : Ty) → (depth ≡ 0 → ⊥) → default_by_storage (default_within (depth - 1) p) (field_types p t) (storage p t) ≡ default_within depth p t
unfolding default_within
default_step p zero t h = absurd (h refl)
default_step p (suc n) t h = let e : suc n - 1 ≡ n = omega arith in ap (λ (m : ℕ). default_by_storage (default_within m p) (field_types p t) (storage p t)) e

pub no_default : (p : Program) (depth : ℕ) (t : Ty) → depth ≡ 0 → Opaque [] ≡ default_within depth p t
unfolding default_within
no_default p zero t e = refl
no_default p (suc n) t e = absurd cc

pub if_ok_is : {A E : Type 0} (r : Result A E) (x y : A) → x ≡ y → IfOk r (λ v. v ≡ x) → IfOk r (λ v. v ≡ y)
if_ok_is r x y e h = subst (λ z. IfOk r (λ v. v ≡ z)) e h
