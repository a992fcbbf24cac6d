-- The numbers of a type, one level at a time.
use Rattle.std.proofs.Common.{◌≡◌, ap, arith, refl, subst, ℕ, zero, suc, ◌-◌, Bool, List}
use Rattle.std.specs.Prelude.{Result, IfOk}
use Rattle.cli_sigs.specs.declared.types.SigTy.{SigTy, out-SigTy}
use Rattle.set_types.specs.SignatureTypes.{Coded}
use Rattle.set_signatures.specs.Spelling.{Spelled, behind, spelled_within, spelled_layer, said}

pub spelled_step : (c : Coded) (args : List (List ℕ)) (depth : ℕ) (t : SigTy) → (depth ≡ 0 → ⊥) → spelled_layer c args (spelled_within c args (depth - 1)) (out-SigTy t) ≡ spelled_within c args depth t
unfolding spelled_within
spelled_step c args zero t h = absurd (h refl)
spelled_step c args (suc n) t h = let e : suc n - 1 ≡ n = omega arith in ap (λ (m : ℕ). spelled_layer c args (spelled_within c args m) (out-SigTy t)) e

pub said_is : {E : Type 0} (r : Result Bool E) (old new : List ℕ) (x y : Spelled) → x ≡ y → IfOk r (λ b. behind old x ≡ said b new) → IfOk r (λ b. behind old y ≡ said b new)
said_is r old new x y e h = subst (λ z. IfOk r (λ b. behind old z ≡ said b new)) e h
