-- The function of a delegate is entered, for a call and for what ForAll and Exists try.
use Rattle.std.proofs.Common.{◌≡◌, ℕ, ◌+◌, Bool, true, false, List, [], ◌∷◌, Option, Some, None, refl, sym, ap, ◌∙◌, subst}
use Rattle.std.specs.Prelude.{◌&&◌, not, is_some, if◌then◌else◌, option_and_then, option_map, slice_get, int_lt, ◌+ℤ◌, pos}
use Rattle.cil_model.specs.declared.ty.Ty.{Ty, out-Ty, Known}
use Rattle.cil_model.specs.declared.ty.Ty as types
use Rattle.cil_model.specs.declared.ty.Ty.TheOpen.{Ty-F}
use Rattle.cil_model.specs.declared.ty.Ty.TheVariants as ty
use Rattle.cil_model.specs.declared.value.Value.{Value, out-Value}
use Rattle.cil_model.specs.declared.value.Value as val
use Rattle.cil_model.specs.declared.value.Value.TheOpen.{Value-F}
use Rattle.cil_model.specs.declared.contract.Contracts.{Contracts}
use Rattle.cil_model.specs.declared.program.Program.{Program}
use Rattle.cil_model.specs.declared.program.MethodDesc.{MethodDesc}
use Rattle.cil_semantics.specs.Words.{maybe, same_bool}
use Rattle.cil_semantics.specs.Types.{is_empty}
use Rattle.cil_semantics.specs.Lookups.{type_of, method_of, args_of, in_set}
use Rattle.cil_semantics.specs.Places.{storage, is_reference, is_void}
use Rattle.cil_semantics.specs.declared.state.Cell.{Cell}
use Rattle.cil_semantics.specs.declared.state.Object.{Object}
use Rattle.cil_semantics.specs.declared.state.World.{World}
use Rattle.cil_semantics.specs.declared.state.Frame.{Frame}
use Rattle.cil_semantics.specs.declared.state.Remaining.{Remaining}
use Rattle.cil_semantics.specs.declared.state.Remaining.TheVariants.{Range, Elements}
use Rattle.cil_semantics.specs.declared.state.Continuation.{Continuation}
use Rattle.cil_semantics.specs.State.{Next, object_at}
use Rattle.cil_semantics.specs.Frames.{stuck, if_there, enter, owner_type, parts_of, is_nothing, this_value, delegate_values, gives_value, enter_function, enter_delegate, next_try}
use Rattle.cil_semantics.specs.Checks.{AddedNumbers}
use Rattle.splice_facts.specs.WellFormed.{Bounds, WellFormedValue, WellFormedValues, WellFormedCells, WellFormedWorld}
use Rattle.splice_facts.specs.Related.{Rewritten, bounds}
use Rattle.simulation_steps.proofs.DelegateLaws.{owner_below}
use Rattle.simulation_objects.proofs.StoredLaws.{object_fine, cell_there}
use Rattle.simulation_valid.specs.Keeping.{StructThere, NoneVoid, StaysValid}
use Rattle.simulation_valid.proofs.EnterValidLaws.{enters_valid, void_stays}
use Rattle.simulation_valid.specs.Steps.{MayEnter}

-- the type arguments of a method's owner
inst_args : (j : ℕ) (args : List Ty) → out-Ty (ty.Inst j args) ≡ Ty-F.Inst j args
unfolding types.out-Ty denote.Hole.Carrier.out
inst_args j args = ap (Ty-F.Inst j) (types.items_shown-the_row-Ty-1 _ _ ∙ types.items_hidden-the_row-Ty-1 args)

known_args : (p : Program) (j : ℕ) → NoneVoid p (args_of (Known j))
unfolding types.out-Ty denote.Hole.Carrier.out
known_args p j = tt

owner_args : (p : Program) (m : ℕ) (args : List Ty) → NoneVoid p args → NoneVoid p (args_of (owner_type p m args))
owner_args p m args h = by_test (is_empty args)
  where
    by_test : (b : Bool) → NoneVoid p (args_of (if b then Known (method_of p m).owner else ty.Inst (method_of p m).owner args))
    by_test true = known_args p (method_of p m).owner
    by_test false = subst (λ o. NoneVoid p (maybe [] (λ (d : ℕ × List Ty). d.1) (in_set o))) (sym (inst_args (method_of p m).owner args)) h

-- a function that has a result just where one is wanted
wanted_void : (a b gives void : Bool) → (a && (b && same_bool gives (not void))) ≡ true → void ≡ not gives
wanted_void true true true true e = absurd (cc e)
wanted_void true true true false e = refl
wanted_void true true false true e = refl
wanted_void true true false false e = absurd (cc e)
wanted_void true false gives void e = absurd (cc e)
wanted_void false b gives void e = absurd (cc e)

parts_fine : (b : Bounds) (cs : List Cell) (d : Value × Value) → WellFormedCells b cs → parts_of cs ≡ Some d → WellFormedValue b d.0 × WellFormedValue b d.1
parts_fine b [] d h e = absurd (cc e)
parts_fine b (t ∷ []) d h e = absurd (cc e)
parts_fine b (t ∷ f ∷ cs) d h e = let q : (t.value, f.value) ≡ d = cc e in subst (λ (y : Value × Value). WellFormedValue b y.0 × WellFormedValue b y.1) q (h.0, h.1.0)

module _ (p : Program) (k : Contracts) (ms : List MethodDesc) (g : AddedNumbers) (r : Rewritten p k ms g) where
  abbrev Stays : Next → Type 0
  Stays x = StaysValid p k ms g r x

  abbrev Bs : Bounds
  Bs = bounds p k ms g r

  pub this_fine : (t : Ty) (o : Value-F Value) (v : Value) → WellFormedValue Bs v → WellFormedValue Bs (this_value p t o v)
  this_fine t (Value-F.Obj x) v fine = by_test (is_reference (storage p t))
    where
      by_test : (b : Bool) → WellFormedValue Bs (if b then v else val.Ptr (Rattle.cil_model.specs.declared.value.Pointer.TheVariants.Inside x (0 ∷ [])))
      by_test true = fine
      by_test false = tt
  this_fine t _ v fine = fine

  values_fine : (owner : Ty) (m : ℕ) (target : Value) (values : List Value) → WellFormedValue Bs target → WellFormedValues Bs values → WellFormedValues Bs (delegate_values p owner m target values)
  values_fine owner m target values ft fv = by_test (method_of p m).is_static (is_nothing (out-Value target))
    where
      by_test : (a b : Bool) → WellFormedValues Bs (if a then (if b then values else target ∷ values) else this_value p owner (out-Value target) target ∷ values)
      by_test true true = fv
      by_test true false = (ft, fv)
      by_test false b = (this_fine owner (out-Value target) target ft, fv)

  -- the caller of a delegate's function, whichever that is, with a result just where one is wanted
  abbrev pub MayEnterAny : Bool → Continuation → List Frame → World → Type 0
  MayEnterAny gives b fs w = (m : ℕ) → is_void (storage p (method_of p m).result) ≡ not gives → MayEnter p k ms g r b m fs w

  function_enters : (gives : Bool) (f target : Value) (values : List Value) (b : Continuation) (fs : List Frame) (w : World) → WellFormedValue Bs f → WellFormedValue Bs target → WellFormedValues Bs values → ((cells : List Cell) → StructThere b cells) → MayEnterAny gives b fs w
      → Stays (enter_function p k gives (out-Value f) target values b fs w)
  unfolding val.out-Value denote.Hole.Carrier.out
  function_enters gives (val.Func m u) target values b fs w fine ft fv there c =
      by_test (is_some (method_of p m).body && (not (type_of p (method_of p m).owner).reference && same_bool gives (gives_value p (owner_type p m u.type_args) m u.method_args))) refl
    where
      by_test : (t : Bool) → (is_some (method_of p m).body && (not (type_of p (method_of p m).owner).reference && same_bool gives (gives_value p (owner_type p m u.type_args) m u.method_args))) ≡ t → Stays (if t then enter p k (owner_type p m u.type_args) m u.method_args (delegate_values p (owner_type p m u.type_args) m target values) b fs w else stuck w)
      by_test true e =
          enters_valid p k ms g r (owner_type p m u.type_args) m u.method_args (delegate_values p (owner_type p m u.type_args) m target values) b fs w fine.0 (owner_below p k ms g r m u.type_args fine.0) (owner_args p m u.type_args fine.1) fine.2 (values_fine (owner_type p m u.type_args) m target values ft fv) there
          (c m (sym (void_stays p (args_of (owner_type p m u.type_args)) u.method_args (owner_args p m u.type_args fine.1) fine.2 (method_of p m).result) ∙ wanted_void (is_some (method_of p m).body) (not (type_of p (method_of p m).owner).reference) gives _ e))
      by_test false e = tt
  function_enters gives _ target values b fs w fine ft fv there c = tt

  pub delegate_enters : (gives : Bool) (o : Value-F Value) (values : List Value) (b : Continuation) (fs : List Frame) (w : World) → WellFormedWorld Bs w → WellFormedValues Bs values → ((cells : List Cell) → StructThere b cells) → MayEnterAny gives b fs w → Stays (enter_delegate p k gives o values b fs w)
  delegate_enters gives (Value-F.Obj x) values b fs w ok fv there c = by_object (object_at w x) refl
    where
      by_parts : (o : Object) → object_at w x ≡ Some o → (d : Option (Value × Value)) → parts_of o.cells ≡ d → Stays (if_there d w (λ (y : Value × Value). enter_function p k gives (out-Value y.1) y.0 values b fs w))
      by_parts o e None q = tt
      by_parts o e (Some d) q =
          let fine = parts_fine Bs o.cells d (object_fine Bs w x o ok.heap e) q in
          function_enters gives d.1 d.0 values b fs w fine.1 fine.0 fv there c

      by_object : (o : Option Object) → object_at w x ≡ o → Stays (if_there (option_and_then (λ (y : Object). parts_of y.cells) o) w (λ (y : Value × Value). enter_function p k gives (out-Value y.1) y.0 values b fs w))
      by_object None e = tt
      by_object (Some o) e = by_parts o e (parts_of o.cells) refl
  delegate_enters gives _ values b fs w ok fv there c = tt

  -- what is tried next
  pub tried_fine : (w : World) (left : Remaining) (x : Value × Remaining) → WellFormedWorld Bs w → next_try w left ≡ Some x → WellFormedValue Bs x.0
  tried_fine w (Range from to) x ok e = by_test (int_lt from to) e
    where
      by_test : (c : Bool) → (if c then Some (val.I4 from, Range (from +ℤ pos 1) to) else None) ≡ Some x → WellFormedValue Bs x.0
      by_test true q = let z : (val.I4 from, Range (from +ℤ pos 1) to) ≡ x = cc q in subst (λ (y : Value × Remaining). WellFormedValue Bs y.0) z tt
      by_test false q = absurd (cc q)
  tried_fine w (Elements j i) x ok e = by_object (object_at w j) refl e
    where
      as_next : Cell → Value × Remaining
      as_next c = (c.value, Elements j (i + 1))

      by_cell : (o : Object) → object_at w j ≡ Some o → (c : Option Cell) → slice_get o.cells i ≡ c → option_map as_next c ≡ Some x → WellFormedValue Bs x.0
      by_cell o s None q z = absurd (cc z)
      by_cell o s (Some c) q z = let y : as_next c ≡ x = cc z in subst (λ (v : Value × Remaining). WellFormedValue Bs v.0) y (cell_there Bs o.cells i c (object_fine Bs w j o ok.heap s) q)

      by_object : (o : Option Object) → object_at w j ≡ o → option_map as_next (option_and_then (λ (y : Object). slice_get y.cells i) o) ≡ Some x → WellFormedValue Bs x.0
      by_object None s z = absurd (cc z)
      by_object (Some o) s z = by_cell o s (slice_get o.cells i) refl z
