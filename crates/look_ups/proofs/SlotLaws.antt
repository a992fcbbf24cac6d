-- The slot of an interface's method, one type after another.
use Rattle.std.proofs.Common.{◌≡◌, ◌∙◌, sym, ap, arith, refl, subst, ℕ, zero, suc, ◌-◌}
use Rattle.std.specs.Prelude.{Option, Some, Result, IfOk, find, option_and_then}
use Rattle.cil_model.specs.declared.ty.Ty.{Ty}
use Rattle.cil_model.specs.declared.program.Program.{Program}
use Rattle.cil_semantics.specs.Words.{any}
use Rattle.cil_semantics.specs.Types.{same_ty}
use Rattle.cil_semantics.specs.Lookups.{chain, interfaces_of}
use Rattle.cil_semantics.specs.Dispatch.{Seen, interface_slot}
use Rattle.look_ups.specs.Slots.{slot_from}

pub slot_step : {E : Type 0} (p : Program) (s : Seen) (steps : ℕ) (t u : Ty) (r : Result (Option Seen) E) → (steps ≡ 0 → ⊥)
    → find (λ v. any (same_ty s.0) (interfaces_of p v)) (chain p t) ≡ Some u
    → IfOk r (λ found. found ≡ slot_from p (interface_slot (steps - 1) p s) s u) → IfOk r (λ found. found ≡ interface_slot steps p s t)
unfolding interface_slot
slot_step p s zero t u r some found h = absurd (some refl)
slot_step p s (suc n) t u r some found h =
    let e : suc n - 1 ≡ n = omega arith in
    subst (λ (x : Option Seen). IfOk r (λ y. y ≡ x))
    (ap (λ (m : ℕ). slot_from p (interface_slot m p s) s u) e ∙ ap (option_and_then (slot_from p (interface_slot n p s) s)) (sym found)) h
