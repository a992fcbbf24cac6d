-- Values stored through by-reference arguments.
use Rattle.std.proofs.Common.{◌≡◌, ◌∙◌, ◌<◌, ◌+◌, ap, arith, drop-cons, min, nat_eq, ◌≤◌, get_or, refl, subst, sym, ℕ, zero, suc, List, [], ◌∷◌, ◌++◌, drop, length}
use Rattle.std.proofs.Math.Dec.{eqb-suc-suc, eqb-zero-suc}
use Rattle.std.specs.Prelude.{if◌then◌else◌, Bool, true, false, Option, Some, None, option_and_then, option_map, slice_get}
use Rattle.cil_model.specs.declared.ty.Ty.{Ty}
use Rattle.cil_model.specs.declared.value.Value.{Value, out-Value}
use Rattle.cil_model.specs.declared.value.Pointer.{Pointer}
use Rattle.cil_model.specs.declared.value.Pointer.TheVariants.{Arg, Local, Inside, Static}
use Rattle.cil_model.specs.declared.program.Program.{Program}
use Rattle.cil_semantics.specs.Outside.{by_ref_args, fits, pointer_in, stored_back}
use Rattle.cil_semantics.specs.Frames.{in_frame, set_args, set_in, set_locals, set_object, set_static, static_cells, static_path, write}
use Rattle.cil_semantics.specs.declared.Cell.{Cell}
use Rattle.cil_semantics.specs.declared.Frame.{Frame}
use Rattle.cil_semantics.specs.declared.Object.{Object}
use Rattle.cil_semantics.specs.declared.World.{World}
use Rattle.cil_semantics.specs.State.{object_at}
use Rattle.run_outside.specs.Asking.{TellsSame, one_stored}
use Rattle.run_places.specs.Done.{state_if}

pub same_told : (w : World) → TellsSame w w
same_told w = record { trace = refl; cells = refl }

told_over : (o : Option (List Frame)) (w : World) (x : List Frame × World) → option_map (λ (gs : List Frame). (gs, w)) o ≡ Some x → TellsSame x.1 w
told_over None w x e = absurd cc
told_over (Some gs) w x e = let at : (gs, w) ≡ x = cc in subst (λ (y : List Frame × World). TellsSame y.1 w) at (same_told w)

told_object : (k : ℕ) (cs : List Cell) (w : World) → TellsSame (set_object w k cs) w
told_object zero cs w = same_told w
told_object (suc k) cs w = record { trace = refl; cells = refl }

-- a store tells nothing and makes no object
pub told_write : (p : Program) (fs : List Frame) (w : World) (q : Pointer) (v : Value) (x : List Frame × World) → write p fs w q v ≡ Some x → TellsSame x.1 w
told_write p fs w (Arg n m i is) v x e = told_over (in_frame fs n m (set_args p (i ∷ is) v)) w x e
told_write p fs w (Local n m i is) v x e = told_over (in_frame fs n m (set_locals p (i ∷ is) v)) w x e
told_write p fs w (Inside k is) v x e = of_object (object_at w k) e
  where
    of_cells : (cs : Option (List Cell)) → option_map (λ (it : List Cell). (fs, set_object w k it)) cs ≡ Some x → TellsSame x.1 w
    of_cells None h = absurd cc
    of_cells (Some cs) h = let at : (fs, set_object w k cs) ≡ x = cc in subst (λ (y : List Frame × World). TellsSame y.1 w) at (told_object k cs w)

    of_object : (o : Option Object) → option_and_then (λ (o : Object). option_map (λ (it : List Cell). (fs, set_object w k it)) (set_in p is v o.cells)) o ≡ Some x → TellsSame x.1 w
    of_object None h = absurd cc
    of_object (Some o) h = of_cells (set_in p is v o.cells) h
told_write p fs w (Static t f is) v x e = of_cells (set_in p (static_path p t f is) v (static_cells p w t)) e
  where
    of_cells : (cs : Option (List Cell)) → option_map (λ (it : List Cell). (fs, set_static w t it)) cs ≡ Some x → TellsSame x.1 w
    of_cells None h = absurd cc
    of_cells (Some cs) h = let at : (fs, set_static w t cs) ≡ x = cc in subst (λ (y : List Frame × World). TellsSame y.1 w) at (record { trace = refl; cells = refl })

-- whether it was done or not
pub told_of : (p : Program) (fs gs : List Frame) (w x : World) (q : Pointer) (v : Value) (done : Bool) → state_if done gs x ≡ write p fs w q v → (done ≡ false → x ≡ w) → TellsSame x w
told_of p fs gs w x q v true e h = told_write p fs w q v (gs, x) (sym e)
told_of p fs gs w x q v false e h = let back : w ≡ x = sym (h refl) in subst (λ (y : World). TellsSame y w) back (same_told w)

first_stored : (p : Program) (u : Ty) (a v : Value) (rest : List (Ty × Value)) (vs : List Value) (fs : List Frame) (w : World) → option_and_then (λ (x : List Frame × World). stored_back p rest vs x.0 x.1) (one_stored p u a v fs w) ≡ stored_back p ((u, a) ∷ rest) (v ∷ vs) fs w
first_stored p u a v rest vs fs w = cases (fits p w u v)
  where
    next : Option (List Frame × World)
    next = option_and_then (λ (q : Pointer). write p fs w q v) (pointer_in (out-Value a))

    on : Option (List Frame × World) → Option (List Frame × World)
    on o = option_and_then (λ (x : List Frame × World). stored_back p rest vs x.0 x.1) o

    cases : (b : Bool) → on (if b then next else None) ≡ (if b then on next else None)
    cases true = refl
    cases false = refl

-- one value more of those that are left
pub one_more_stored : (p : Program) (u : Ty) (a v : Value) (ts : List Ty) (vs : List Value) (back : List Value) (count : ℕ) (fs gs : List Frame) (w x : World) (done : Bool)
    → count < length back → v ≡ get_or back count v → state_if done gs x ≡ one_stored p u a v fs w
    → option_and_then (λ (y : List Frame × World). stored_back p (by_ref_args ts vs) (drop (count + 1) back) y.0 y.1) (state_if done gs x) ≡ stored_back p ((u, a) ∷ by_ref_args ts vs) (drop count back) fs w
one_more_stored p u a v ts vs back count fs gs w x done h i e =
    let next : suc count ≡ count + 1 = omega arith in
    let left : drop count back ≡ v ∷ drop (count + 1) back = drop-cons back count v h ∙ ap (λ (y : Value). y ∷ drop (suc count) back) (sym i) ∙ ap (λ (n : ℕ). v ∷ drop n back) next in
    ap (option_and_then (λ (y : List Frame × World). stored_back p (by_ref_args ts vs) (drop (count + 1) back) y.0 y.1)) e
    ∙ first_stored p u a v (by_ref_args ts vs) (drop (count + 1) back) fs w
    ∙ ap (λ (bs : List Value). stored_back p ((u, a) ∷ by_ref_args ts vs) bs fs w) (sym left)

drop_none : (vs : List Value) → drop 0 vs ≡ vs
drop_none [] = refl
drop_none (v ∷ vs) = refl

none_after : (ts : List Ty) (vs : List Value) (i : ℕ) → min (length ts) (length vs) ≤ i → by_ref_args (drop i ts) (drop i vs) ≡ []
none_after [] vs zero h = refl
none_after [] vs (suc i) h = refl
none_after (t ∷ ts) [] zero h = refl
none_after (t ∷ ts) [] (suc i) h = of_none (drop i ts)
  where
    of_none : (us : List Ty) → by_ref_args us [] ≡ []
    of_none [] = refl
    of_none (u ∷ us) = refl
none_after (t ∷ ts) (v ∷ vs) zero h = absurd (omega arith)
none_after (t ∷ ts) (v ∷ vs) (suc i) h = none_after ts vs i (omega arith)

-- whether all values were stored, once no argument is left
pub all_stored : (p : Program) (ts : List Ty) (vs back : List Value) (i count : ℕ) (fs : List Frame) (w : World) → min (length ts) (length vs) ≤ i → count ≤ length back → state_if (nat_eq count (length back)) fs w ≡ stored_back p (by_ref_args (drop i ts) (drop i vs)) (drop count back) fs w
all_stored p ts vs back i count fs w h k = ends back count k ∙ ap (λ (args : List (Ty × Value)). stored_back p args (drop count back) fs w) (sym (none_after ts vs i h))
  where
    ends : (back : List Value) (count : ℕ) → count ≤ length back → state_if (nat_eq count (length back)) fs w ≡ stored_back p [] (drop count back) fs w
    ends [] zero k = refl
    ends [] (suc n) k = absurd (omega arith)
    ends (v ∷ back) zero k = ap (λ (b : Bool). state_if b fs w) (eqb-zero-suc (length back)) ∙ ap (λ (bs : List Value). stored_back p [] bs fs w) (sym (drop_none (v ∷ back)))
    ends (v ∷ back) (suc n) k = ap (λ (b : Bool). state_if b fs w) (eqb-suc-suc n (length back)) ∙ ends back n (omega arith)
