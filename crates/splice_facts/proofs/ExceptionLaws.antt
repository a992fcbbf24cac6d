-- Exceptions that are kept stay objects while the heap grows.
use Rattle.std.proofs.Common.{◌≡◌, ℕ, zero, suc, ◌+◌, ◌<◌, ◌≤◌, Bool, true, false, List, [], ◌∷◌, ◌++◌, length, Option, Some, None, refl, ap, subst, arith}
use Rattle.std.specs.Prelude.{slice_get, slice_set, option_map, if◌then◌else◌}
use Rattle.cil_model.specs.declared.ty.Ty.{Ty}
use Rattle.cil_model.specs.declared.program.Program.{Program}
use Rattle.cil_semantics.specs.Words.{maybe}
use Rattle.cil_semantics.specs.Core.{object_ty}
use Rattle.cil_semantics.specs.Lookups.{is_sub}
use Rattle.cil_semantics.specs.declared.state.Object.{Object}
use Rattle.cil_semantics.specs.declared.state.World.{World}
use Rattle.cil_semantics.specs.declared.state.Statics.{Statics}
use Rattle.cil_semantics.specs.declared.state.Init.{Init}
use Rattle.cil_semantics.specs.declared.state.Init.TheVariants.{Begun, Failed}
use Rattle.cil_semantics.specs.declared.state.Cause.{Cause}
use Rattle.cil_semantics.specs.declared.state.Cause.TheVariants.{Caught, Unwinding, Leaving}
use Rattle.cil_semantics.specs.declared.state.Handling.{Handling}
use Rattle.cil_semantics.specs.Unwind.{set_statics, find_statics, innermost}
use Rattle.splice_facts.specs.Exceptions.{IsException, IsObject, ObjectIf, FailureThere, FailuresThere, CauseThere, CausesThere, ExceptionIf}

pub more_object : (n m x : ℕ) → n ≤ m → IsObject n x → IsObject m x
more_object n m x le there = (there.0, omega (arith, there.1))

pub more_failure : (n m : ℕ) (o : Option Init) → n ≤ m → FailureThere n o → FailureThere m o
more_failure n m None le there = tt
more_failure n m (Some Begun) le there = tt
more_failure n m (Some (Failed x)) le there = more_object n m x le there

pub more_failures : (n m : ℕ) (ss : List Statics) → n ≤ m → FailuresThere n ss → FailuresThere m ss
more_failures n m [] le there = tt
more_failures n m (s ∷ ss) le there = (more_failure n m s.init le there.0, more_failures n m ss le there.1)

pub set_failures : (n : ℕ) (is_it : Ty → Bool) (s : Statics) (ss : List Statics) → FailureThere n s.init → FailuresThere n ss → FailuresThere n (set_statics is_it s ss)
set_failures n is_it s [] one all = (one, tt)
set_failures n is_it s (x ∷ xs) one all = by_test (is_it x.owner) (set_failures n is_it s xs one all.1)
  where
    by_test : (b : Bool) → FailuresThere n (set_statics is_it s xs) → FailuresThere n (if b then s ∷ xs else x ∷ set_statics is_it s xs)
    by_test true more = (one, all.1)
    by_test false more = (all.0, more)

pub found_failure : (n : ℕ) (t : Ty) (ss : List Statics) (s : Statics) → FailuresThere n ss → find_statics t ss ≡ Some s → FailureThere n s.init
found_failure n t [] s all e = absurd (cc e)
found_failure n t (x ∷ xs) s all e = by_test (Rattle.cil_semantics.specs.Types.same_ty x.owner t) e (found_failure n t xs s all.1)
  where
    by_test : (b : Bool) → (if b then Some x else find_statics t xs) ≡ Some s → (find_statics t xs ≡ Some s → FailureThere n s.init) → FailureThere n s.init
    by_test true q more = let z : x ≡ s = cc q in subst (λ (y : Statics). FailureThere n y.init) z all.0
    by_test false q more = more q

pub one_longer : {A : Type 0} (xs : List A) (x : A) → length (xs ++ x ∷ []) ≡ length xs + 1
one_longer [] x = refl
one_longer (y ∷ ys) x = let ih = one_longer ys x in omega (arith, ih)

-- the object that is made next is there then
pub new_object : {A : Type 0} (xs : List A) (x : A) → IsObject (length (xs ++ x ∷ [])) (length xs + 1)
new_object xs x = let e = one_longer xs x in (omega arith, omega (arith, e))

pub longer : {A : Type 0} (xs : List A) (x : A) → length xs ≤ length (xs ++ x ∷ [])
longer xs x = let e = one_longer xs x in omega (arith, e)

pub set_long : {A : Type 0} (xs : List A) (k : ℕ) (x : A) → length (slice_set xs k x) ≡ length xs
set_long [] k x = refl
set_long (y ∷ ys) zero x = refl
set_long (y ∷ ys) (suc k) x = ap suc (set_long ys k x)

-- where each type is under System.Object, an object is an exception
pub is_exception : (p : Program) (w : World) (x : ℕ) → ((t : Ty) → is_sub p t object_ty ≡ true) → IsObject (length w.heap) x → IsException p w x
is_exception p w zero rooted there = absurd (no_zero there.0)
  where
    no_zero : 0 < 0 → ⊥
    no_zero h = omega (arith, h)
is_exception p w (suc k) rooted there = by_object (slice_get w.heap k) (is_there w.heap k (omega (arith, there.1)))
  where
    is_there : (os : List Object) (j : ℕ) → j < length os → (o : Object) × (slice_get os j ≡ Some o)
    is_there [] j h = absurd (no_less j h)
      where
        no_less : (i : ℕ) → i < 0 → ⊥
        no_less i l = omega (arith, l)
    is_there (o ∷ os) zero h = (o, refl)
    is_there (o ∷ os) (suc j) h = is_there os j (omega (arith, h))

    by_object : (o : Option Object) → (y : Object) × (o ≡ Some y) → maybe false (λ u. is_sub p u object_ty) (option_map (λ (z : Object). z.ty) o) ≡ true
    by_object None e = absurd (cc e.1)
    by_object (Some y) e = rooted y.ty

pub are_exceptions : (p : Program) (w : World) (o : Option ℕ) → ((t : Ty) → is_sub p t object_ty ≡ true) → ObjectIf (length w.heap) o → ExceptionIf p w o
are_exceptions p w None rooted there = tt
are_exceptions p w (Some x) rooted there = is_exception p w x rooted there

-- the object of the innermost catch
pub caught_there : (n : ℕ) (hs : List Handling) → CausesThere n hs → ObjectIf n (innermost hs)
caught_there n [] all = tt
caught_there n (h ∷ hs) all = by_cause h.cause all.0 (caught_there n hs all.1)
  where
    by_cause : (c : Cause) → CauseThere n c → ObjectIf n (innermost hs) → ObjectIf n (Rattle.cil_semantics.specs.Unwind.caught_or c (innermost hs))
    by_cause (Caught x) one more = one
    by_cause (Unwinding x) one more = more
    by_cause (Leaving t) one more = more
