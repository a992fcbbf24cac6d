-- The bases of a type, one step after another.
use Rattle.std.proofs.Common.{◌≡◌, ℕ, suc, ◌+◌, ◌-◌, ◌<◌, Bool, true, false, refl, ap, ◌∙◌, arith}
use Rattle.std.specs.Prelude.{◌||◌, Option, Some, None}
use Rattle.cil_model.specs.declared.ty.Ty.{Ty, out-Ty}
use Rattle.cil_model.specs.declared.program.Program.{Program}
use Rattle.cil_semantics.specs.Words.{maybe}
use Rattle.contract_extract.specs.Exceptions.{is_outside_exception, is_exception_within, named_base}

within_suc : (n : ℕ) (p : Program) (t : Ty) → is_exception_within (suc n) p t ≡ (is_outside_exception (out-Ty t) || maybe false (is_exception_within n p) (named_base p t))
unfolding is_exception_within
within_suc n p t = refl

-- what the step from a type to its base tells
pub step_at : (n k : ℕ) (p : Program) (t : Ty) → k < n → is_exception_within (n - k) p t ≡ (is_outside_exception (out-Ty t) || maybe false (is_exception_within (n - (k + 1)) p) (named_base p t))
step_at n k p t h =
    let one : n - k ≡ suc (n - (k + 1)) = omega arith in
    ap (λ (m : ℕ). is_exception_within m p t) one ∙ within_suc (n - (k + 1)) p t

pub none_left : (n k : ℕ) (p : Program) (t : Ty) → k ≡ n → is_exception_within (n - k) p t ≡ false
unfolding is_exception_within
none_left n k p t h =
    let none : n - k ≡ 0 = omega arith in
    ap (λ (m : ℕ). is_exception_within m p t) none

or_true : (a b c : Bool) → a ≡ true → c ≡ (a || b) → c ≡ true
or_true a b c h e = e ∙ ap (λ (x : Bool). x || b) h

or_false : (a b c : Bool) → a ≡ false → c ≡ (a || b) → c ≡ b
or_false a b c h e = e ∙ ap (λ (x : Bool). x || b) h

-- the type is an outside exception
pub found : (n k : ℕ) (p : Program) (t : Ty) → k < n → is_outside_exception (out-Ty t) ≡ true → is_exception_within (n - k) p t ≡ true
found n k p t h e = or_true _ (maybe false (is_exception_within (n - (k + 1)) p) (named_base p t)) _ e (step_at n k p t h)

-- it is none, and has no base
pub ended : (n k : ℕ) (p : Program) (t : Ty) → k < n → is_outside_exception (out-Ty t) ≡ false → named_base p t ≡ None → is_exception_within (n - k) p t ≡ false
ended n k p t h e none =
    or_false _ (maybe false (is_exception_within (n - (k + 1)) p) (named_base p t)) _ e (step_at n k p t h)
    ∙ ap (λ (o : Option Ty). maybe false (is_exception_within (n - (k + 1)) p) o) none

-- it is none, and its base tells
pub goes_on : (n k : ℕ) (p : Program) (t base : Ty) → k < n → is_outside_exception (out-Ty t) ≡ false → named_base p t ≡ Some base → is_exception_within (n - k) p t ≡ is_exception_within (n - (k + 1)) p base
goes_on n k p t base h e some =
    or_false _ (maybe false (is_exception_within (n - (k + 1)) p) (named_base p t)) _ e (step_at n k p t h)
    ∙ ap (λ (o : Option Ty). maybe false (is_exception_within (n - (k + 1)) p) o) some
