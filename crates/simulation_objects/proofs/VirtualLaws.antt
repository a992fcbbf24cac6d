-- Virtual and constrained calls in both runs, and ldvirtftn.
use Rattle.std.proofs.Common.{◌≡◌, ℕ, suc, ◌+◌, ◌*◌, ◌<◌, Bool, true, false, List, [], ◌∷◌, ◌++◌, length, Option, Some, None, refl, sym, ap, ◌∙◌, subst, arith}
use Rattle.std.specs.Prelude.{◌&&◌, bytes_eq, if◌then◌else◌, option_and_then, IsTrue, codes}
use Rattle.cil_model.specs.declared.ty.Ty.{Ty}
use Rattle.cil_model.specs.declared.value.Value.{Value, out-Value, Obj, Ptr}
use Rattle.cil_model.specs.declared.value.Value as val
use Rattle.cil_model.specs.declared.value.Value.TheOpen.{Value-F}
use Rattle.cil_model.specs.declared.value.Pointer.{Pointer}
use Rattle.cil_model.specs.declared.contract.Contracts.{Contracts}
use Rattle.cil_model.specs.declared.program.Program.{Program}
use Rattle.cil_model.specs.declared.program.MethodDesc.{MethodDesc}
use Rattle.cil_model.specs.NoContracts.{no_contracts}
use Rattle.cil_semantics.specs.Words.{same_bool}
use Rattle.cil_semantics.specs.Types.{same_ty}
use Rattle.cil_semantics.specs.Lookups.{method_of, args_of}
use Rattle.cil_semantics.specs.Dispatch.{Seen}
use Rattle.cil_semantics.specs.declared.state.Cell.{Cell}
use Rattle.cil_semantics.specs.Places.{storage, is_reference, new_cell}
use Rattle.cil_semantics.specs.declared.state.World.{World}
use Rattle.cil_semantics.specs.declared.state.Statics.{Statics}
use Rattle.cil_semantics.specs.declared.state.Frame.{Frame}
use Rattle.cil_semantics.specs.State.{Next, next_object, with_object}
use Rattle.cil_semantics.specs.declared.state.Continuation.TheVariants.{Push}
use Rattle.cil_semantics.specs.Acts.{Call, is_null, dynamic_type}
use Rattle.cil_semantics.specs.Unwind.{raise}
use Rattle.cil_semantics.specs.Frames.{stuck, if_there, read, this_value, gives_value, enter_delegate}
use Rattle.cil_semantics.specs.Outside.{is_outside}
use Rattle.cil_semantics.specs.Returns.{push_below}
use Rattle.cil_semantics.specs.Calls.{CoreMember, Constructor, Equality, Concatenation, TextLength, IsNullOrEmpty, Quantifier, NotCore, core_of, outside_call, plain_call, body_seen, own_body, call_unfound, call_found, is_invoke, may_be_delegate, is_delegate_at, call_on, pointed, call_boxed, call_struct, call_constrained, call_virtual_on, call_virtual, function_of, find_virtual_on, gives_alike}
use Rattle.cil_semantics.specs.Checks.{AddedNumbers}
use Rattle.splice_facts.proofs.ExceptionLaws.{more_failures, longer}
use Rattle.splice_facts.specs.Bodies.{with_methods}
use Rattle.splice_facts.specs.Grown.{beside}
use Rattle.machine_laws.specs.Answers.{is_below}
use Rattle.splice_facts.specs.WellFormed.{WellFormedPointer, WellFormedValue, WellFormedValues, WellFormedObjects, NoneVoid}
use Rattle.splice_facts.specs.Related.{Rewritten, bounds}
use Rattle.simulation_objects.specs.Calls as Sites
use Rattle.simulation.proofs.ProgramLaws.{storage_same, new_cell_same, with_object_same}
use Rattle.simulation.proofs.ArriveLaws as Arriving
use Rattle.simulation.proofs.UnwindLaws as Unwinding
use Rattle.simulation_steps.proofs.PointerLaws.{reads_alike}
use Rattle.simulation_steps.proofs.DelegateLaws as Delegating
use Rattle.simulation_objects.proofs.CallLaws as Calling
use Rattle.simulation_objects.proofs.StoredLaws.{boxed_fine, read_fine}
use Rattle.simulation_objects.proofs.DispatchLaws.{body_seen_same, own_body_same}

module _ (p : Program) (k : Contracts) (ms : List MethodDesc) (g : AddedNumbers) (r : Rewritten p k ms g) where
  abbrev p' : Program
  p' = with_methods p ms

  abbrev To : ℕ → Next → Next → Type 0
  To n x y = Unwinding.To p k ms g r n x y

  abbrev big : ℕ → ℕ
  big n = Sites.call_cost p k ms g r n

  abbrev Site : List Frame → List Frame → World → List Statics → Type 0
  Site fs fs' w ss = Sites.CallSite p k ms g r fs fs' w ss

  abbrev Fine : Value → Type 0
  Fine v = WellFormedValue (bounds p k ms g r) v

  abbrev AllFine : List Value → Type 0
  AllFine vs = WellFormedValues (bounds p k ms g r) vs

  -- a member of the input
  abbrev Old : Ty → ℕ → Type 0
  Old t m = (m < r.methods) × IsTrue (is_below r.types t)

  -- ---- by the type of the object

  this_fine : (t : Ty) (x : Value-F Value) (v : Value) → Fine v → Fine (this_value p t x v)
  this_fine t (Value-F.Obj x) v fine = by_test (is_reference (storage p t))
    where
      by_test : (b : Bool) → Fine (if b then v else Ptr (Rattle.cil_model.specs.declared.value.Pointer.TheVariants.Inside x (0 ∷ [])))
      by_test true = fine
      by_test false = tt
  this_fine t _ v fine = fine

  outside_or_stuck : (c : Call) (fs fs' : List Frame) (w : World) (ss : List Statics) → Old c.owner c.method → AllFine c.values → Site fs fs' w ss
      → To (big (length fs)) (if is_outside p c.method then outside_call p k c.owner c.method c.method_args c.values fs w else stuck w) (if is_outside p' c.method then outside_call p' no_contracts c.owner c.method c.method_args c.values fs' (beside ss w) else stuck (beside ss w))
  outside_or_stuck c fs fs' w ss old fine z =
      subst (λ t. To (big (length fs)) (if is_outside p c.method then outside_call p k c.owner c.method c.method_args c.values fs w else stuck w) (if t then outside_call p' no_contracts c.owner c.method c.method_args c.values fs' (beside ss w) else stuck (beside ss w))) (sym (Calling.outside_same p k ms g r c.method)) (by_test (is_outside p c.method))
    where
      by_test : (b : Bool) → To (big (length fs)) (if b then outside_call p k c.owner c.method c.method_args c.values fs w else stuck w) (if b then outside_call p' no_contracts c.owner c.method c.method_args c.values fs' (beside ss w) else stuck (beside ss w))
      by_test true = Unwinding.reach_within p k ms g r (2 * Unwinding.cst p k ms g r + Unwinding.lay p k ms g r (length fs)) _ _ _ (omega arith) (Calling.calls_outside p k ms g r c.owner c.method c.method_args c.values fs fs' w ss z fine)
      by_test false = Arriving.stuck_both p k ms g r _ w ss z.alike

  unfound : (x : CoreMember) (c : Call) (fs fs' : List Frame) (w : World) (ss : List Statics) → Old c.owner c.method → AllFine c.values → Site fs fs' w ss → To (big (length fs)) (call_unfound p k x c fs w) (call_unfound p' no_contracts x c fs' (beside ss w))
  unfound NotCore c fs fs' w ss old fine z = outside_or_stuck c fs fs' w ss old fine z
  unfound Constructor c fs fs' w ss old fine z = Calling.calls_core p k ms g r Constructor c.owner c.method c.method_args c.values fs fs' w ss old.0 old.1 z fine
  unfound (Equality b) c fs fs' w ss old fine z = Calling.calls_core p k ms g r (Equality b) c.owner c.method c.method_args c.values fs fs' w ss old.0 old.1 z fine
  unfound Concatenation c fs fs' w ss old fine z = Calling.calls_core p k ms g r Concatenation c.owner c.method c.method_args c.values fs fs' w ss old.0 old.1 z fine
  unfound TextLength c fs fs' w ss old fine z = Calling.calls_core p k ms g r TextLength c.owner c.method c.method_args c.values fs fs' w ss old.0 old.1 z fine
  unfound IsNullOrEmpty c fs fs' w ss old fine z = Calling.calls_core p k ms g r IsNullOrEmpty c.owner c.method c.method_args c.values fs fs' w ss old.0 old.1 z fine
  unfound (Quantifier e) c fs fs' w ss old fine z = Calling.calls_core p k ms g r (Quantifier e) c.owner c.method c.method_args c.values fs fs' w ss old.0 old.1 z fine

  alike_same : (c : Call) (s : Seen) → gives_alike p' c s ≡ gives_alike p c s
  alike_same c s =
      ap (λ b. same_bool b (gives_value p' s.0 s.1 c.method_args)) (Delegating.gives_same p k ms g r c.owner c.method c.method_args)
      ∙ ap (same_bool (gives_value p c.owner c.method c.method_args)) (Delegating.gives_same p k ms g r s.0 s.1 c.method_args)

  -- a body that is found is called, where it gives a value just where the member does
  seen : (s : Seen) (c : Call) (values values' : List Value) (fs fs' : List Frame) (w : World) (ss : List Statics) → values' ≡ values → Old s.0 s.1 → AllFine values → Site fs fs' w ss
      → To (big (length fs)) (if gives_alike p c s then plain_call p k s.0 s.1 c.method_args values fs w else stuck w) (if gives_alike p' c s then plain_call p' no_contracts s.0 s.1 c.method_args values' fs' (beside ss w) else stuck (beside ss w))
  seen s c values values' fs fs' w ss same there fv z =
      subst (λ b. To (big (length fs)) (first (gives_alike p c s)) (second b values')) (sym (alike_same c s))
      (subst (λ vs. To (big (length fs)) (first (gives_alike p c s)) (second (gives_alike p c s) vs)) (sym same) (by_test (gives_alike p c s)))
    where
      first : Bool → Next
      first b = if b then plain_call p k s.0 s.1 c.method_args values fs w else stuck w

      second : Bool → List Value → Next
      second b vs = if b then plain_call p' no_contracts s.0 s.1 c.method_args vs fs' (beside ss w) else stuck (beside ss w)

      by_test : (b : Bool) → To (big (length fs)) (first b) (second b values)
      by_test true = Calling.calls_plainly p k ms g r s.0 s.1 c.method_args values fs fs' w ss there.0 there.1 z fv
      by_test false = Arriving.stuck_both p k ms g r _ w ss z.alike

  found : (o : Option Seen) (t : Ty) (c : Call) (this : Value) (values : List Value) (fs fs' : List Frame) (w : World) (ss : List Statics) → ((s : Seen) → o ≡ Some s → Old s.0 s.1) → Old c.owner c.method → AllFine c.values → Fine this → AllFine values → Site fs fs' w ss
      → To (big (length fs)) (call_found p k o t c this values fs w) (call_found p' no_contracts o t c this values fs' (beside ss w))
  found None t c this values fs fs' w ss there old fine ft fv z =
      subst (λ x. To (big (length fs)) (call_unfound p k (core_of p c.owner c.method) c fs w) (call_unfound p' no_contracts x c fs' (beside ss w))) (sym (Calling.core_same p k ms g r c.owner c.method)) (unfound (core_of p c.owner c.method) c fs fs' w ss old fine z)
  found (Some s) t c this values fs fs' w ss there old fine ft fv z =
      seen s c (this_value p t (out-Value this) this ∷ values) (this_value p' t (out-Value this) this ∷ values) fs fs' w ss (ap (λ v. v ∷ values) (Delegating.this_value_same p k ms g r t (out-Value this) this)) (there s refl) (this_fine t (out-Value this) this ft, fv) z

  -- ---- a virtual call on a value

  invoke_same : (w : World) (ss : List Statics) (c : Call) (this : Value) → is_invoke p' (beside ss w) c this ≡ is_invoke p w c this
  invoke_same w ss c this = ap (λ n. bytes_eq n (codes "Invoke") && (may_be_delegate p c.owner && is_delegate_at w (out-Value this))) ((r.same_methods c.method).name)

  calls_type : (o : Option Ty) (c : Call) (this : Value) (values : List Value) (fs fs' : List Frame) (w : World) (ss : List Statics) → Old c.owner c.method → AllFine c.values → Fine this → AllFine values → Site fs fs' w ss
      → To (big (length fs)) (if_there o w (λ t. call_found p k (body_seen p t (c.owner, c.method)) t c this values fs w)) (if_there o (beside ss w) (λ t. call_found p' no_contracts (body_seen p' t (c.owner, c.method)) t c this values fs' (beside ss w)))
  calls_type None c this values fs fs' w ss old fine ft fv z = Arriving.stuck_both p k ms g r _ w ss z.alike
  calls_type (Some t) c this values fs fs' w ss old fine ft fv z =
      subst (λ o. To (big (length fs)) (call_found p k (body_seen p t (c.owner, c.method)) t c this values fs w) (call_found p' no_contracts o t c this values fs' (beside ss w))) (sym (body_seen_same p ms r.same_methods t (c.owner, c.method)))
      (found (body_seen p t (c.owner, c.method)) t c this values fs fs' w ss (λ s e. r.found t (c.owner, c.method) s old.0 old.1 e) old fine ft fv z)

  calls_delegate : (c : Call) (this : Value) (values : List Value) (fs fs' : List Frame) (w : World) (ss : List Statics) → Site fs fs' w ss
      → To (big (length fs)) (enter_delegate p k (gives_value p c.owner c.method c.method_args) (out-Value this) values Push fs w) (enter_delegate p' no_contracts (gives_value p' c.owner c.method c.method_args) (out-Value this) values Push fs' (beside ss w))
  calls_delegate c this values fs fs' w ss z =
      subst (λ b. To (big (length fs)) (enter_delegate p k (gives_value p c.owner c.method c.method_args) (out-Value this) values Push fs w) (enter_delegate p' no_contracts b (out-Value this) values Push fs' (beside ss w))) (sym (Delegating.gives_same p k ms g r c.owner c.method c.method_args))
      (Unwinding.reach_within p k ms g r (Unwinding.cst p k ms g r + Unwinding.lay p k ms g r (suc (suc (length fs)))) _ _ _ (omega arith)
      (Delegating.enters_delegate p k ms g r (gives_value p c.owner c.method c.method_args) (out-Value this) values Push Push fs fs' w ss z.under refl refl z.others z.heap z.alike z.deep z.count))

  calls_on : (c : Call) (this : Value) (values : List Value) (fs fs' : List Frame) (w : World) (ss : List Statics) → Old c.owner c.method → AllFine c.values → Fine this → AllFine values → Site fs fs' w ss
      → To (big (length fs)) (call_on p k c this values fs w) (call_on p' no_contracts c this values fs' (beside ss w))
  calls_on c this values fs fs' w ss old fine ft fv z =
      subst (λ b. To (big (length fs)) (call_on p k c this values fs w) (by_tests p' no_contracts fs' (beside ss w) (is_null this) b)) (sym (invoke_same w ss c this)) (both (is_null this) (is_invoke p w c this))
    where
      by_tests : Program → Contracts → List Frame → World → Bool → Bool → Next
      by_tests q j gs u a b =
          if a then raise q j (codes "System.NullReferenceException") gs u
          else if b then enter_delegate q j (gives_value q c.owner c.method c.method_args) (out-Value this) values Push gs u
          else if_there (dynamic_type u this) u (λ t. call_found q j (body_seen q t (c.owner, c.method)) t c this values gs u)

      both : (a b : Bool) → To (big (length fs)) (by_tests p k fs w a b) (by_tests p' no_contracts fs' (beside ss w) a b)
      both true b = Calling.raises_here p k ms g r (codes "System.NullReferenceException") fs fs' w ss z
      both false true = calls_delegate c this values fs fs' w ss z
      both false false = calls_type (dynamic_type w this) c this values fs fs' w ss old fine ft fv z

  -- ---- constrained.

  one_more : (w : World) (t : Ty) (cell : Cell) → WellFormedObjects (bounds p k ms g r) w.heap → NoneVoid p (args_of t) → Fine cell.value → WellFormedObjects (bounds p k ms g r) (with_object p (record { ty = t; cells = cell ∷ [] }) w).heap
  one_more w t cell fine na fc = appended w.heap fine
    where
      appended : (os : List Rattle.cil_semantics.specs.declared.state.Object.Object) → WellFormedObjects (bounds p k ms g r) os → WellFormedObjects (bounds p k ms g r) (os ++ record { ty = t; cells = cell ∷ [] } ∷ [])
      appended [] f = ((na, (fc, tt)), tt)
      appended (o ∷ os) f = (f.0, appended os f.1)

  calls_boxed : (t : Ty) (v : Value) (c : Call) (values : List Value) (fs fs' : List Frame) (w : World) (ss : List Statics) → Old c.owner c.method → NoneVoid p (args_of t) → Fine v → AllFine values → ((cell : Cell) → new_cell p t v ≡ Some cell → Fine cell.value) → Site fs fs' w ss
      → To (big (length fs)) (call_boxed p k t v c values fs w) (call_boxed p' no_contracts t v c values fs' (beside ss w))
  calls_boxed t v c values fs fs' w ss old na ft fv boxed z =
      subst (λ o. To (big (length fs)) (call_boxed p k t v c values fs w) (if_there o (beside ss w) (λ cell. call_on p' no_contracts (record c { values = Obj (next_object w) ∷ values }) (Obj (next_object w)) values fs' (with_object p' (record { ty = t; cells = cell ∷ [] }) (beside ss w))))) (sym (new_cell_same p ms t v))
      (by_cell (new_cell p t v) boxed)
    where
      by_cell : (o : Option Cell) → ((cell : Cell) → o ≡ Some cell → Fine cell.value)
          → To (big (length fs)) (if_there o w (λ cell. call_on p k (record c { values = Obj (next_object w) ∷ values }) (Obj (next_object w)) values fs (with_object p (record { ty = t; cells = cell ∷ [] }) w))) (if_there o (beside ss w) (λ cell. call_on p' no_contracts (record c { values = Obj (next_object w) ∷ values }) (Obj (next_object w)) values fs' (with_object p' (record { ty = t; cells = cell ∷ [] }) (beside ss w))))
      by_cell None b = Arriving.stuck_both p k ms g r _ w ss z.alike
      by_cell (Some cell) b =
          subst (λ u. To (big (length fs)) (call_on p k (record c { values = Obj (next_object w) ∷ values }) (Obj (next_object w)) values fs (with_object p (record { ty = t; cells = cell ∷ [] }) w)) (call_on p' no_contracts (record c { values = Obj (next_object w) ∷ values }) (Obj (next_object w)) values fs' u)) (sym (with_object_same p ms (record { ty = t; cells = cell ∷ [] }) (beside ss w)))
          (calls_on (record c { values = Obj (next_object w) ∷ values }) (Obj (next_object w)) values fs fs' (with_object p (record { ty = t; cells = cell ∷ [] }) w) ss old (tt, fv) tt fv
          (record { under = z.under; others = z.others; alike = record { statics = (z.alike).statics; depth = (z.alike).depth; bare = (z.alike).bare; failures = more_failures (length w.heap) (length (with_object p (record { ty = t; cells = cell ∷ [] }) w).heap) w.statics (longer w.heap (record { ty = t; cells = cell ∷ [] })) (z.alike).failures }; deep = z.deep; count = z.count; heap = one_more w t cell z.heap na (b cell refl) }))

  own_old : (t : Ty) (s x : Seen) → Old s.0 s.1 → own_body p t s ≡ Some x → Old x.0 x.1
  own_old t s x old e = by_seen (body_seen p t s) refl e
    where
      by_test : (y : Seen) (b : Bool) → (if b then Some y else None) ≡ Some x → y ≡ x
      by_test y true q = cc q
      by_test y false q = absurd (cc q)

      by_seen : (o : Option Seen) → body_seen p t s ≡ o → option_and_then (λ (y : Seen). if same_ty y.0 t then Some y else None) o ≡ Some x → Old x.0 x.1
      by_seen None q h = absurd (cc h)
      by_seen (Some y) q h = r.found t s x old.0 old.1 (q ∙ ap (λ z. Some z) (by_test y (same_ty y.0 t) h))

  -- what is read through a pointer is the same
  reads_here : (q : Pointer) (fs fs' : List Frame) (w : World) (ss : List Statics) → WellFormedPointer (bounds p k ms g r) q → Site fs fs' w ss → read p' fs' (beside ss w) q ≡ read p fs w q
  reads_here q fs fs' w ss fine z = reads_alike p k ms g r Push Push fs fs' w ss q fine z.under z.others z.alike

  module _ (c : Call) (fs fs' : List Frame) (w : World) (ss : List Statics) (a : Sites.CallOf p k ms g r c fs w) (z : Site fs fs' w ss) where
    old_here : Old c.owner c.method
    old_here = (a.old, a.owner)

    calls_struct : (o : Option Seen) (t : Ty) (q : Pointer) (values : List Value) → NoneVoid p (args_of t) → ((s : Seen) → o ≡ Some s → Old s.0 s.1) → WellFormedPointer (bounds p k ms g r) q → AllFine values
        → To (big (length fs)) (call_struct p k o t q c values fs w) (call_struct p' no_contracts o t q c values fs' (beside ss w))
    calls_struct (Some s) t q values na there fq fv = seen s c (Ptr q ∷ values) (Ptr q ∷ values) fs fs' w ss refl (there s refl) (fq, fv) z
    calls_struct None t q values na there fq fv =
        subst (λ o. To (big (length fs)) (if_there (read p fs w q) w (λ v. call_boxed p k t v c values fs w)) (if_there o (beside ss w) (λ v. call_boxed p' no_contracts t v c values fs' (beside ss w)))) (sym (reads_here q fs fs' w ss fq z)) (by_value (read p fs w q) (λ v e. read_fine (bounds p k ms g r) p fs w q v a.frames a.world e))
      where
        by_value : (o : Option Value) → ((v : Value) → o ≡ Some v → Fine v) → To (big (length fs)) (if_there o w (λ v. call_boxed p k t v c values fs w)) (if_there o (beside ss w) (λ v. call_boxed p' no_contracts t v c values fs' (beside ss w)))
        by_value None f = Arriving.stuck_both p k ms g r _ w ss z.alike
        by_value (Some v) f = calls_boxed t v c values fs fs' w ss old_here na (f v refl) fv (λ cell e. boxed_fine (bounds p k ms g r) p t v cell (f v refl) e) z

    calls_pointed : (q : Pointer) (t : Ty) (values : List Value) → NoneVoid p (args_of t) → WellFormedPointer (bounds p k ms g r) q → AllFine values
        → To (big (length fs)) (if is_reference (storage p t) then if_there (read p fs w q) w (λ v. call_on p k (record c { values = v ∷ values }) v values fs w) else call_struct p k (own_body p t (c.owner, c.method)) t q c values fs w)
        (if is_reference (storage p' t) then if_there (read p' fs' (beside ss w) q) (beside ss w) (λ v. call_on p' no_contracts (record c { values = v ∷ values }) v values fs' (beside ss w)) else call_struct p' no_contracts (own_body p' t (c.owner, c.method)) t q c values fs' (beside ss w))
    calls_pointed q t values na fq fv =
        subst (λ h. To (big (length fs)) (first (is_reference (storage p t))) (second (is_reference h) (read p' fs' (beside ss w) q) (own_body p' t (c.owner, c.method)))) (sym (storage_same p ms t))
        (subst (λ o. To (big (length fs)) (first (is_reference (storage p t))) (second (is_reference (storage p t)) o (own_body p' t (c.owner, c.method)))) (sym (reads_here q fs fs' w ss fq z))
        (subst (λ o. To (big (length fs)) (first (is_reference (storage p t))) (second (is_reference (storage p t)) (read p fs w q) o)) (sym (own_body_same p ms r.same_methods t (c.owner, c.method)))
        (by_test (is_reference (storage p t)))))
      where
        first : Bool → Next
        first b = if b then if_there (read p fs w q) w (λ v. call_on p k (record c { values = v ∷ values }) v values fs w) else call_struct p k (own_body p t (c.owner, c.method)) t q c values fs w

        second : Bool → Option Value → Option Seen → Next
        second b o s = if b then if_there o (beside ss w) (λ v. call_on p' no_contracts (record c { values = v ∷ values }) v values fs' (beside ss w)) else call_struct p' no_contracts s t q c values fs' (beside ss w)

        by_value : (o : Option Value) → ((v : Value) → o ≡ Some v → Fine v) → To (big (length fs)) (if_there o w (λ v. call_on p k (record c { values = v ∷ values }) v values fs w)) (if_there o (beside ss w) (λ v. call_on p' no_contracts (record c { values = v ∷ values }) v values fs' (beside ss w)))
        by_value None f = Arriving.stuck_both p k ms g r _ w ss z.alike
        by_value (Some v) f = calls_on (record c { values = v ∷ values }) v values fs fs' w ss old_here (f v refl, fv) (f v refl) fv z

        by_test : (b : Bool) → To (big (length fs)) (first b) (second b (read p fs w q) (own_body p t (c.owner, c.method)))
        by_test true = by_value (read p fs w q) (λ v e. read_fine (bounds p k ms g r) p fs w q v a.frames a.world e)
        by_test false = calls_struct (own_body p t (c.owner, c.method)) t q values na (λ s e. own_old t (c.owner, c.method) s old_here e) fq fv

    pointer_fine : (v : Value) (q : Pointer) → Fine v → pointed (out-Value v) ≡ Some q → WellFormedPointer (bounds p k ms g r) q
    unfolding Rattle.cil_model.specs.declared.value.Value.out-Value denote.Hole.Carrier.out
    pointer_fine (val.Ptr q0) q fine e = let y : q0 ≡ q = cc e in subst (WellFormedPointer (bounds p k ms g r)) y fine
    pointer_fine _ q fine e = absurd (cc e)

    calls_constrained : (o : Option Ty) (this : Value) (values : List Value) → ((t : Ty) → o ≡ Some t → NoneVoid p (args_of t)) → Fine this → AllFine values → To (big (length fs)) (call_constrained p k o c this values fs w) (call_constrained p' no_contracts o c this values fs' (beside ss w))
    calls_constrained None this values na ft fv = calls_on c this values fs fs' w ss old_here a.values ft fv z
    calls_constrained (Some t) this values na ft fv = by_pointer (pointed (out-Value this)) (λ q e. pointer_fine this q ft e)
      where
        by_pointer : (o : Option Pointer) → ((q : Pointer) → o ≡ Some q → WellFormedPointer (bounds p k ms g r) q)
            → To (big (length fs)) (if_there o w (λ q. if is_reference (storage p t) then if_there (read p fs w q) w (λ v. call_on p k (record c { values = v ∷ values }) v values fs w) else call_struct p k (own_body p t (c.owner, c.method)) t q c values fs w))
            (if_there o (beside ss w) (λ q. if is_reference (storage p' t) then if_there (read p' fs' (beside ss w) q) (beside ss w) (λ v. call_on p' no_contracts (record c { values = v ∷ values }) v values fs' (beside ss w)) else call_struct p' no_contracts (own_body p' t (c.owner, c.method)) t q c values fs' (beside ss w)))
        by_pointer None f = Arriving.stuck_both p k ms g r _ w ss z.alike
        by_pointer (Some q) f = calls_pointed q t values (na t refl) (f q refl) fv

    calls_values : (vs : List Value) → AllFine vs → To (big (length fs)) (call_virtual_on p k c vs fs w) (call_virtual_on p' no_contracts c vs fs' (beside ss w))
    calls_values [] f = Arriving.stuck_both p k ms g r _ w ss z.alike
    calls_values (this ∷ values) f = calls_constrained c.constrained this values a.constrained f.0 f.1

    pub calls_virtual : To (big (length fs)) (call_virtual p k c fs w) (call_virtual p' no_contracts c fs' (beside ss w))
    unfolding call_virtual
    calls_virtual =
        subst (λ b. To (big (length fs)) (if (method_of p c.method).is_static then stuck w else call_virtual_on p k c c.values fs w) (if b then stuck (beside ss w) else call_virtual_on p' no_contracts c c.values fs' (beside ss w))) (sym ((r.same_methods c.method).is_static)) (by_test (method_of p c.method).is_static)
      where
        by_test : (b : Bool) → To (big (length fs)) (if b then stuck w else call_virtual_on p k c c.values fs w) (if b then stuck (beside ss w) else call_virtual_on p' no_contracts c c.values fs' (beside ss w))
        by_test true = Arriving.stuck_both p k ms g r _ w ss z.alike
        by_test false = calls_values c.values a.values

  -- ---- ldvirtftn

  pub finds_function : (c : Call) (values : List Value) (fs fs' : List Frame) (w : World) (ss : List Statics) → Site fs fs' w ss → To (big (length fs)) (find_virtual_on p k c values fs w) (find_virtual_on p' no_contracts c values fs' (beside ss w))
  finds_function c [] fs fs' w ss z = Arriving.stuck_both p k ms g r _ w ss z.alike
  finds_function c (this ∷ values) fs fs' w ss z = by_null (is_null this)
    where
      by_type : (o : Option Ty) → To (big (length fs)) (if_there o w (λ t. push_below p k (Some (function_of p c (body_seen p t (c.owner, c.method)))) fs w)) (if_there o (beside ss w) (λ t. push_below p' no_contracts (Some (function_of p' c (body_seen p' t (c.owner, c.method)))) fs' (beside ss w)))
      by_type None = Arriving.stuck_both p k ms g r _ w ss z.alike
      by_type (Some t) =
          subst (λ o. To (big (length fs)) (push_below p k (Some (function_of p c (body_seen p t (c.owner, c.method)))) fs w) (push_below p' no_contracts (Some (function_of p' c o)) fs' (beside ss w))) (sym (body_seen_same p ms r.same_methods t (c.owner, c.method)))
          (same_function (body_seen p t (c.owner, c.method)))
        where
          same_function : (o : Option Seen) → To (big (length fs)) (push_below p k (Some (function_of p c o)) fs w) (push_below p' no_contracts (Some (function_of p' c o)) fs' (beside ss w))
          same_function None = Calling.pushes_here p k ms g r (Some (function_of p c None)) fs fs' w ss z
          same_function (Some s) = Calling.pushes_here p k ms g r (Some (function_of p c (Some s))) fs fs' w ss z

      by_null : (b : Bool) → To (big (length fs)) (if b then raise p k (codes "System.NullReferenceException") fs w else if_there (dynamic_type w this) w (λ t. push_below p k (Some (function_of p c (body_seen p t (c.owner, c.method)))) fs w)) (if b then raise p' no_contracts (codes "System.NullReferenceException") fs' (beside ss w) else if_there (dynamic_type w this) (beside ss w) (λ t. push_below p' no_contracts (Some (function_of p' c (body_seen p' t (c.owner, c.method)))) fs' (beside ss w)))
      by_null true = Calling.raises_here p k ms g r (codes "System.NullReferenceException") fs fs' w ss z
      by_null false = by_type (dynamic_type w this)
