-- The type of a signature, one level at a time.
use Rattle.std.proofs.Common.{◌≡◌, ap, arith, refl, subst, ℕ, zero, suc, ◌-◌}
use Rattle.std.specs.Prelude.{Result, IfOk}
use Rattle.cli_sigs.specs.declared.types.SigTy.{SigTy, out-SigTy}
use Rattle.set_types.specs.SignatureTypes.{Coded, ty_within, layer_ty}

pub ty_step : (c : Coded) (depth : ℕ) (t : SigTy) → (depth ≡ 0 → ⊥) → layer_ty c (ty_within c (depth - 1)) (out-SigTy t) ≡ ty_within c depth t
unfolding ty_within
ty_step c zero t h = absurd (h refl)
ty_step c (suc n) t h = let e : suc n - 1 ≡ n = omega arith in ap (λ (m : ℕ). layer_ty c (ty_within c m) (out-SigTy t)) e

pub if_ok_is : {A E : Type 0} (r : Result A E) (x y : A) → x ≡ y → IfOk r (λ v. v ≡ x) → IfOk r (λ v. v ≡ y)
if_ok_is r x y e h = subst (λ z. IfOk r (λ v. v ≡ z)) e h
