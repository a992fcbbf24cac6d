-- Instructions on texts, handles, functions, boxes, casts and values of a type leave well-formed values.
use Rattle.std.proofs.Common.{ℕ, List, [], ◌∷◌, Option, Some, None, refl}
use Rattle.std.specs.Prelude.{option_and_then, slice_get, if◌then◌else◌, pos}
use Rattle.cil_model.specs.declared.ty.Ty.{Ty, out-Ty}
use Rattle.cil_model.specs.declared.value.Value.{Value, out-Value, I4, Null, Ptr, Text}
use Rattle.cil_model.specs.declared.value.Value.TheVariants as value
use Rattle.cil_model.specs.declared.value.Value.TheOpen.{Value-F}
use Rattle.cil_model.specs.declared.value.Pointer.TheVariants.{Inside}
use Rattle.cil_model.specs.declared.contract.Contracts.{Contracts}
use Rattle.cil_model.specs.declared.program.Program.{Program}
use Rattle.cil_model.specs.declared.program.MethodDesc.{MethodDesc}
use Rattle.cil_model.specs.declared.program.Meaning.{Meaning}
use Rattle.cil_model.specs.declared.program.Meaning.TheVariants.{OfMethod, OfText, OfType}
use Rattle.cil_semantics.specs.Lookups.{args_of, is_sub}
use Rattle.cil_semantics.specs.Places.{storage, is_reference, stored_in, new_cell, default_value}
use Rattle.cil_semantics.specs.Types.{same_ty}
use Rattle.cil_semantics.specs.State.{object_at}
use Rattle.cil_semantics.specs.declared.state.Cell.{Cell}
use Rattle.cil_semantics.specs.declared.state.Object.{Object}
use Rattle.cil_semantics.specs.declared.state.World.{World}
use Rattle.cil_semantics.specs.declared.state.Frame.{Frame}
use Rattle.cil_semantics.specs.Acts.{Act, Load, Store, Copy, on_top, on_two, if_some, goes_with, goes_with_new, invalid_cast, on_pointer, text_in, handle_of, size_at, on_type, is_null, dynamic_type, cast, unboxed, unbox, box}
use Rattle.cil_semantics.specs.Instructions.{push_function}
use Rattle.cil_semantics.specs.Checks.{AddedNumbers}
use Rattle.splice_facts.specs.WellFormed.{Bounds, WellFormedValue, WellFormedValues, WellFormedObjects, NoneVoid}
use Rattle.splice_facts.specs.Related.{Rewritten, bounds}
use Rattle.simulation_objects.proofs.StoredLaws.{boxed_fine, stored_fine, default_fine, object_fine, cell_there}
use Rattle.simulation_valid.specs.Keeping.{ValidPlaces}
use Rattle.simulation_valid.specs.Steps.{FineAct}
use Rattle.splice_facts.specs.Related.{NamesInput}
use Rattle.simulation_valid.proofs.OperandLaws as operand
use Rattle.simulation_valid.proofs.PlaceActLaws as place
use Rattle.simulation_valid.proofs.PointerActLaws as pointer
use Rattle.simulation_valid.proofs.UnwindValidLaws.{restacked}

module _ (p : Program) (k : Contracts) (ms : List MethodDesc) (g : AddedNumbers) (r : Rewritten p k ms g) (f : Frame) (fs : List Frame) (places : ValidPlaces p k ms g r f fs) where
  abbrev Bs : Bounds
  Bs = bounds p k ms g r

  abbrev Fine : Act → Type 0
  Fine a = FineAct p k ms g r f fs a

  pushes : (v : Value) (s : List Value) → WellFormedValue Bs v → WellFormedValues Bs s → Fine (goes_with f.local v s)
  pushes = place.pushes_fine p k ms g r f fs places

  -- ---- values that a token gives

  pub texts_fine : (m : Option Meaning) → Fine (if_some (text_in m) (λ v. goes_with f.local v f.local.stack))
  texts_fine None = tt
  texts_fine (Some (OfText units)) = pushes (Text units) f.local.stack tt places.fine.stack
  texts_fine (Some _) = tt

  pub handles_fine : (m : Option Meaning) → Fine (if_some (option_and_then (handle_of p) m) (λ name. goes_with f.local (value.Opaque name) f.local.stack))
  handles_fine m = operand.some_fine p k ms g r f fs (option_and_then (handle_of p) m) (λ name. goes_with f.local (value.Opaque name) f.local.stack) (λ name e. pushes (value.Opaque name) f.local.stack tt places.fine.stack)

  pub sizes_fine : (m : Option Meaning) → Fine (on_type m (λ t. if_some (size_at (out-Ty t)) (λ n. goes_with f.local (I4 (pos n)) f.local.stack)))
  sizes_fine m =
      operand.type_fine p k ms g r f fs m (λ t. if_some (size_at (out-Ty t)) (λ n. goes_with f.local (I4 (pos n)) f.local.stack))
      (λ t. operand.some_fine p k ms g r f fs (size_at (out-Ty t)) (λ n. goes_with f.local (I4 (pos n)) f.local.stack) (λ n e. pushes (I4 (pos n)) f.local.stack tt places.fine.stack))

  pub functions_fine : (m : Option Meaning) → NamesInput p r.types r.methods m → Fine (push_function m f.local)
  functions_fine None own = tt
  functions_fine (Some (OfMethod owner m args)) own = pushes (value.Func m (record { type_args = args_of owner; method_args = args })) f.local.stack (own.0, own.2, own.3) places.fine.stack
  functions_fine (Some _) own = tt

  -- ---- values of a type, through pointers

  pub copies_fine : (m : Option Meaning) (s : List Value) → WellFormedValues Bs s → Fine (on_type m (λ t. on_two s (λ to from rest. on_pointer to (λ q. on_pointer from (λ x. Copy q x (storage p t) (record f.local { stack = rest }))))))
  copies_fine m s h =
      operand.type_fine p k ms g r f fs m (λ t. on_two s (λ to from rest. on_pointer to (λ q. on_pointer from (λ x. Copy q x (storage p t) (record f.local { stack = rest })))))
      (λ t. operand.two_fine p k ms g r f fs s (λ to from rest. on_pointer to (λ q. on_pointer from (λ x. Copy q x (storage p t) (record f.local { stack = rest })))) h
      (λ to from rest ft ff fr. pointer.at_pointer p k ms g r f fs places to (λ q. on_pointer from (λ x. Copy q x (storage p t) (record f.local { stack = rest }))) ft
      (λ q fq. pointer.at_pointer p k ms g r f fs places from (λ x. Copy q x (storage p t) (record f.local { stack = rest })) ff (λ x fx. (restacked p k ms g r f rest fs places fr, refl, fq, fx)))))

  pub loads_fine : (m : Option Meaning) (s : List Value) → WellFormedValues Bs s → Fine (on_type m (λ t. on_top s (λ q rest. on_pointer q (λ x. Load x (storage p t) (record f.local { stack = rest })))))
  loads_fine m s h = operand.type_fine p k ms g r f fs m (λ t. on_top s (λ q rest. on_pointer q (λ x. Load x (storage p t) (record f.local { stack = rest })))) (λ t. pointer.loads_indirect p k ms g r f fs places (storage p t) s h)

  pub stores_fine : (m : Option Meaning) (s : List Value) → WellFormedValues Bs s → Fine (on_type m (λ t. on_two s (λ q v rest. on_pointer q (λ x. if_some (stored_in p t v) (λ y. Store x y (record f.local { stack = rest }))))))
  stores_fine m s h =
      operand.type_fine p k ms g r f fs m (λ t. on_two s (λ q v rest. on_pointer q (λ x. if_some (stored_in p t v) (λ y. Store x y (record f.local { stack = rest })))))
      (λ t. operand.two_fine p k ms g r f fs s (λ q v rest. on_pointer q (λ x. if_some (stored_in p t v) (λ y. Store x y (record f.local { stack = rest })))) h
      (λ q v rest fq fv fr. pointer.at_pointer p k ms g r f fs places q (λ x. if_some (stored_in p t v) (λ y. Store x y (record f.local { stack = rest }))) fq
      (λ x fx. operand.some_fine p k ms g r f fs (stored_in p t v) (λ y. Store x y (record f.local { stack = rest })) (λ y e. (restacked p k ms g r f rest fs places fr, refl, fx, stored_fine Bs p 1001 t v y fv e)))))

  pub initializes_fine : (m : Option Meaning) (s : List Value) → WellFormedValues Bs s → Fine (on_type m (λ t. on_top s (λ q rest. on_pointer q (λ x. Store x (default_value p t) (record f.local { stack = rest })))))
  initializes_fine m s h =
      operand.type_fine p k ms g r f fs m (λ t. on_top s (λ q rest. on_pointer q (λ x. Store x (default_value p t) (record f.local { stack = rest }))))
      (λ t. operand.top_fine p k ms g r f fs s (λ q rest. on_pointer q (λ x. Store x (default_value p t) (record f.local { stack = rest }))) h
      (λ q rest fq fr. pointer.at_pointer p k ms g r f fs places q (λ x. Store x (default_value p t) (record f.local { stack = rest })) fq (λ x fx. (restacked p k ms g r f rest fs places fr, refl, fx, default_fine Bs p 1001 t))))

  -- ---- casts and boxes

  cast_fine : (t : Ty) (v : Value) (passes other : Act) (w : World) → Fine passes → Fine other → Fine (cast p t v passes other w)
  cast_fine t v passes other w fp fo =
      operand.either_fine p k ms g r f fs (is_null v) passes (if_some (dynamic_type w v) (λ u. if is_sub p u t then passes else other)) fp
      (operand.some_fine p k ms g r f fs (dynamic_type w v) (λ u. if is_sub p u t then passes else other) (λ u e. operand.either_fine p k ms g r f fs (is_sub p u t) passes other fp fo))

  pub casts_fine : (m : Option Meaning) (s : List Value) (w : World) → WellFormedValues Bs s → Fine (on_type m (λ t. on_top s (λ v rest. cast p t v (goes_with f.local v rest) invalid_cast w)))
  casts_fine m s w h =
      operand.type_fine p k ms g r f fs m (λ t. on_top s (λ v rest. cast p t v (goes_with f.local v rest) invalid_cast w))
      (λ t. operand.top_fine p k ms g r f fs s (λ v rest. cast p t v (goes_with f.local v rest) invalid_cast w) h (λ v rest fv fr. cast_fine t v (goes_with f.local v rest) invalid_cast w (pushes v rest fv fr) tt))

  pub tests_fine : (m : Option Meaning) (s : List Value) (w : World) → WellFormedValues Bs s → Fine (on_type m (λ t. on_top s (λ v rest. cast p t v (goes_with f.local v rest) (goes_with f.local Null rest) w)))
  tests_fine m s w h =
      operand.type_fine p k ms g r f fs m (λ t. on_top s (λ v rest. cast p t v (goes_with f.local v rest) (goes_with f.local Null rest) w))
      (λ t. operand.top_fine p k ms g r f fs s (λ v rest. cast p t v (goes_with f.local v rest) (goes_with f.local Null rest) w) h (λ v rest fv fr. cast_fine t v (goes_with f.local v rest) (goes_with f.local Null rest) w (pushes v rest fv fr) (pushes Null rest tt fr)))

  unboxed_fine : (w : World) (t : Ty) (o : Value-F Value) (go : ℕ → Cell → Act) → WellFormedObjects Bs w.heap → ((j : ℕ) (c : Cell) → WellFormedValue Bs c.value → Fine (go j c)) → Fine (unboxed w t o go)
  unboxed_fine w t Value-F.Null go heap h = tt
  unboxed_fine w t (Value-F.Obj j) go heap h =
      operand.some_fine p k ms g r f fs (object_at w j) (λ (o : Object). if same_ty o.ty t then if_some (slice_get o.cells 0) (go j) else invalid_cast)
      (λ o e. operand.either_fine p k ms g r f fs (same_ty o.ty t) (if_some (slice_get o.cells 0) (go j)) invalid_cast
      (operand.some_fine p k ms g r f fs (slice_get o.cells 0) (go j) (λ c q. h j c (cell_there Bs o.cells 0 c (object_fine Bs w j o heap e) q))) tt)
  unboxed_fine w t (Value-F.Text units) go heap h = tt
  unboxed_fine w t _ go heap h = tt

  pub unboxes_fine : (m : Option Meaning) (s : List Value) (w : World) → WellFormedObjects Bs w.heap → WellFormedValues Bs s → Fine (on_type m (λ t. on_top s (λ v rest. unbox p w t v f.local rest)))
  unboxes_fine m s w heap h =
      operand.type_fine p k ms g r f fs m (λ t. on_top s (λ v rest. unbox p w t v f.local rest))
      (λ t. operand.top_fine p k ms g r f fs s (λ v rest. unbox p w t v f.local rest) h
      (λ v rest fv fr. operand.either_fine p k ms g r f fs (is_reference (storage p t)) Rattle.cil_semantics.specs.Acts.Stuck (unboxed w t (out-Value v) (λ j c. goes_with f.local (Ptr (Inside j (0 ∷ []))) rest)) tt
      (unboxed_fine w t (out-Value v) (λ j c. goes_with f.local (Ptr (Inside j (0 ∷ []))) rest) heap (λ j c fc. pushes (Ptr (Inside j (0 ∷ []))) rest tt fr))))

  boxed_act : (t : Ty) (v : Value) (rest : List Value) (w : World) → NoneVoid p (args_of t) → WellFormedValue Bs v → WellFormedValues Bs rest → Fine (box p t v rest w f.local)
  boxed_act t v rest w na fv fr =
      operand.either_fine p k ms g r f fs (is_reference (storage p t)) (goes_with f.local v rest) (if_some (new_cell p t v) (λ c. goes_with_new w (record { ty = t; cells = c ∷ [] }) f.local rest)) (pushes v rest fv fr)
      (operand.some_fine p k ms g r f fs (new_cell p t v) (λ c. goes_with_new w (record { ty = t; cells = c ∷ [] }) f.local rest)
      (λ c e. (((na, (boxed_fine Bs p t v c fv e, tt)), tt), restacked p k ms g r f (value.Obj (Rattle.cil_semantics.specs.State.next_object w) ∷ rest) fs places (tt, fr), refl)))

  -- a type that a token names has no void among its arguments
  typed_fine : (m : Option Meaning) (go : Ty → Act) → NamesInput p r.types r.methods m → ((t : Ty) → NoneVoid p (args_of t) → Fine (go t)) → Fine (on_type m go)
  typed_fine None go own h = tt
  typed_fine (Some (OfType t)) go own h = h t own
  typed_fine (Some _) go own h = tt

  pub boxes_fine : (m : Option Meaning) (s : List Value) (w : World) → NamesInput p r.types r.methods m → WellFormedValues Bs s → Fine (on_type m (λ t. on_top s (λ v rest. box p t v rest w f.local)))
  boxes_fine m s w own h =
      typed_fine m (λ t. on_top s (λ v rest. box p t v rest w f.local)) own (λ t na. operand.top_fine p k ms g r f fs s (λ v rest. box p t v rest w f.local) h (λ v rest fv fr. boxed_act t v rest w na fv fr))

  pub unboxes_any_fine : (m : Option Meaning) (s : List Value) (w : World) → WellFormedObjects Bs w.heap → WellFormedValues Bs s
      → Fine (on_type m (λ t. on_top s (λ v rest. if is_reference (storage p t) then cast p t v (goes_with f.local v rest) invalid_cast w else unboxed w t (out-Value v) (λ j (c : Cell). goes_with f.local c.value rest))))
  unboxes_any_fine m s w heap h =
      operand.type_fine p k ms g r f fs m (λ t. on_top s (λ v rest. if is_reference (storage p t) then cast p t v (goes_with f.local v rest) invalid_cast w else unboxed w t (out-Value v) (λ j (c : Cell). goes_with f.local c.value rest)))
      (λ t. operand.top_fine p k ms g r f fs s (λ v rest. if is_reference (storage p t) then cast p t v (goes_with f.local v rest) invalid_cast w else unboxed w t (out-Value v) (λ j (c : Cell). goes_with f.local c.value rest)) h
      (λ v rest fv fr. operand.either_fine p k ms g r f fs (is_reference (storage p t)) (cast p t v (goes_with f.local v rest) invalid_cast w) (unboxed w t (out-Value v) (λ j (c : Cell). goes_with f.local c.value rest))
      (cast_fine t v (goes_with f.local v rest) invalid_cast w (pushes v rest fv fr) tt) (unboxed_fine w t (out-Value v) (λ j (c : Cell). goes_with f.local c.value rest) heap (λ j c fc. pushes c.value rest fc fr))))
