-- The arguments of an instance, one level after another.
use Rattle.std.proofs.Common.{◌≡◌, ap, refl, arith, ℕ, zero, suc, ◌-◌, []}
use Rattle.cli_sigs.specs.declared.types.SigTy.{SigTy, out-SigTy}
use Rattle.set_types.specs.SignatureTypes.{Coded}
use Rattle.member_table.specs.Environments.{layer_arguments, arguments_within}

pub arguments_step : (c : Coded) (depth : ℕ) (t : SigTy) → (depth ≡ 0 → ⊥) → layer_arguments c (arguments_within c (depth - 1)) (out-SigTy t) ≡ arguments_within c depth t
unfolding arguments_within
arguments_step c zero t h = absurd (h refl)
arguments_step c (suc n) t h = let e : suc n - 1 ≡ n = omega arith in ap (λ (m : ℕ). layer_arguments c (arguments_within c m) (out-SigTy t)) e

pub no_arguments : (c : Coded) (depth : ℕ) (t : SigTy) → depth ≡ 0 → [] ≡ arguments_within c depth t
unfolding arguments_within
no_arguments c zero t e = refl
no_arguments c (suc n) t e = absurd cc
