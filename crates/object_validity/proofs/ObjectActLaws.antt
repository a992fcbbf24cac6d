-- Instructions on texts, handles, functions, boxes, casts and values of a type leave references to objects that are there.
use Rattle.std.proofs.Common.{ℕ, List, [], ◌∷◌, Option, Some, None}
use Rattle.std.specs.Prelude.{option_and_then, slice_get, if◌then◌else◌, pos}
use Rattle.cil_model.specs.declared.ty.Ty.{Ty, out-Ty}
use Rattle.cil_model.specs.declared.value.Value.{Value, out-Value, I4, Null, Ptr, Text}
use Rattle.cil_model.specs.declared.value.Value.TheVariants as value
use Rattle.cil_model.specs.declared.value.Value.TheOpen.{Value-F}
use Rattle.cil_model.specs.declared.value.Pointer.TheVariants.{Inside}
use Rattle.cil_model.specs.declared.program.Program.{Program}
use Rattle.cil_model.specs.declared.program.Meaning.{Meaning}
use Rattle.cil_model.specs.declared.program.Meaning.TheVariants.{OfMethod, OfText}
use Rattle.cil_semantics.specs.Lookups.{args_of, is_sub}
use Rattle.cil_semantics.specs.Places.{storage, is_reference, stored_in, new_cell, default_value}
use Rattle.cil_semantics.specs.Types.{same_ty}
use Rattle.cil_semantics.specs.State.{object_at}
use Rattle.cil_semantics.specs.declared.state.Cell.{Cell}
use Rattle.cil_semantics.specs.declared.state.Object.{Object}
use Rattle.cil_semantics.specs.declared.state.World.{World}
use Rattle.cil_semantics.specs.Acts.{Act, Load, Store, Copy, on_top, on_two, if_some, goes_with, goes_with_new, invalid_cast, on_pointer, text_in, handle_of, size_at, on_type, is_null, dynamic_type, cast, unboxed, unbox, box}
use Rattle.cil_semantics.specs.Instructions.{push_function}
use Rattle.cil_semantics.specs.declared.state.Local.{Local}
use Rattle.object_validity.specs.Known.{KnownValue, KnownValues, KnownLocal, KnownObjects, KnownWorld, KnownAct}
use Rattle.object_validity.proofs.StoredLaws.{boxed_fine, stored_fine, default_fine, object_fine, cell_there}
use Rattle.object_validity.proofs.GrowthLaws.{restacked, pushed_new}
use Rattle.object_validity.proofs.OperandLaws as operand
use Rattle.object_validity.proofs.PlaceActLaws as place
use Rattle.object_validity.proofs.PointerActLaws as pointer

module _ (p : Program) (b : ℕ) (l : Local) (known : KnownLocal b l) where
  abbrev Fine : Act → Type 0
  Fine a = KnownAct b a

  pushes : (v : Value) (s : List Value) → KnownValue b v → KnownValues b s → Fine (goes_with l v s)
  pushes = place.pushes_fine p b l known

  -- ---- values that a token gives

  pub texts_fine : (m : Option Meaning) → Fine (if_some (text_in m) (λ v. goes_with l v l.stack))
  texts_fine None = tt
  texts_fine (Some (OfText units)) = pushes (Text units) l.stack tt known.stack
  texts_fine (Some _) = tt

  pub handles_fine : (m : Option Meaning) → Fine (if_some (option_and_then (handle_of p) m) (λ name. goes_with l (value.Opaque name) l.stack))
  handles_fine m = operand.some_fine b (option_and_then (handle_of p) m) (λ name. goes_with l (value.Opaque name) l.stack) (λ name e. pushes (value.Opaque name) l.stack tt known.stack)

  pub sizes_fine : (m : Option Meaning) → Fine (on_type m (λ t. if_some (size_at (out-Ty t)) (λ n. goes_with l (I4 (pos n)) l.stack)))
  sizes_fine m =
      operand.type_fine b m (λ t. if_some (size_at (out-Ty t)) (λ n. goes_with l (I4 (pos n)) l.stack))
      (λ t. operand.some_fine b (size_at (out-Ty t)) (λ n. goes_with l (I4 (pos n)) l.stack) (λ n e. pushes (I4 (pos n)) l.stack tt known.stack))

  pub functions_fine : (m : Option Meaning) → Fine (push_function m l)
  functions_fine None = tt
  functions_fine (Some (OfMethod owner m args)) = pushes (value.Func m (record { type_args = args_of owner; method_args = args })) l.stack tt known.stack
  functions_fine (Some _) = tt

  -- ---- values of a type, through pointers

  pub copies_fine : (m : Option Meaning) (s : List Value) → KnownValues b s → Fine (on_type m (λ t. on_two s (λ to from rest. on_pointer to (λ q. on_pointer from (λ x. Copy q x (storage p t) (record l { stack = rest }))))))
  copies_fine m s h =
      operand.type_fine b m (λ t. on_two s (λ to from rest. on_pointer to (λ q. on_pointer from (λ x. Copy q x (storage p t) (record l { stack = rest })))))
      (λ t. operand.two_fine b s (λ to from rest. on_pointer to (λ q. on_pointer from (λ x. Copy q x (storage p t) (record l { stack = rest })))) h
      (λ to from rest ft ff fr. pointer.at_pointer p b l known to (λ q. on_pointer from (λ x. Copy q x (storage p t) (record l { stack = rest }))) ft
      (λ q. pointer.at_pointer p b l known from (λ x. Copy q x (storage p t) (record l { stack = rest })) ff (λ x. restacked b l rest known fr))))

  pub loads_fine : (m : Option Meaning) (s : List Value) → KnownValues b s → Fine (on_type m (λ t. on_top s (λ q rest. on_pointer q (λ x. Load x (storage p t) (record l { stack = rest })))))
  loads_fine m s h = operand.type_fine b m (λ t. on_top s (λ q rest. on_pointer q (λ x. Load x (storage p t) (record l { stack = rest })))) (λ t. pointer.loads_indirect p b l known (storage p t) s h)

  pub stores_fine : (m : Option Meaning) (s : List Value) → KnownValues b s → Fine (on_type m (λ t. on_two s (λ q v rest. on_pointer q (λ x. if_some (stored_in p t v) (λ y. Store x y (record l { stack = rest }))))))
  stores_fine m s h =
      operand.type_fine b m (λ t. on_two s (λ q v rest. on_pointer q (λ x. if_some (stored_in p t v) (λ y. Store x y (record l { stack = rest })))))
      (λ t. operand.two_fine b s (λ q v rest. on_pointer q (λ x. if_some (stored_in p t v) (λ y. Store x y (record l { stack = rest })))) h
      (λ q v rest fq fv fr. pointer.at_pointer p b l known q (λ x. if_some (stored_in p t v) (λ y. Store x y (record l { stack = rest }))) fq
      (λ x. operand.some_fine b (stored_in p t v) (λ y. Store x y (record l { stack = rest })) (λ y e. (stored_fine b p 1001 t v y fv e, restacked b l rest known fr)))))

  pub initializes_fine : (m : Option Meaning) (s : List Value) → KnownValues b s → Fine (on_type m (λ t. on_top s (λ q rest. on_pointer q (λ x. Store x (default_value p t) (record l { stack = rest })))))
  initializes_fine m s h =
      operand.type_fine b m (λ t. on_top s (λ q rest. on_pointer q (λ x. Store x (default_value p t) (record l { stack = rest }))))
      (λ t. operand.top_fine b s (λ q rest. on_pointer q (λ x. Store x (default_value p t) (record l { stack = rest }))) h
      (λ q rest fq fr. pointer.at_pointer p b l known q (λ x. Store x (default_value p t) (record l { stack = rest })) fq (λ x. (default_fine b p 1001 t, restacked b l rest known fr))))

  -- ---- casts and boxes

  cast_fine : (t : Ty) (v : Value) (passes other : Act) (w : World) → Fine passes → Fine other → Fine (cast p t v passes other w)
  cast_fine t v passes other w fp fo =
      operand.either_fine b (is_null v) passes (if_some (dynamic_type w v) (λ u. if is_sub p u t then passes else other)) fp
      (operand.some_fine b (dynamic_type w v) (λ u. if is_sub p u t then passes else other) (λ u e. operand.either_fine b (is_sub p u t) passes other fp fo))

  pub casts_fine : (m : Option Meaning) (s : List Value) (w : World) → KnownValues b s → Fine (on_type m (λ t. on_top s (λ v rest. cast p t v (goes_with l v rest) invalid_cast w)))
  casts_fine m s w h =
      operand.type_fine b m (λ t. on_top s (λ v rest. cast p t v (goes_with l v rest) invalid_cast w))
      (λ t. operand.top_fine b s (λ v rest. cast p t v (goes_with l v rest) invalid_cast w) h (λ v rest fv fr. cast_fine t v (goes_with l v rest) invalid_cast w (pushes v rest fv fr) tt))

  pub tests_fine : (m : Option Meaning) (s : List Value) (w : World) → KnownValues b s → Fine (on_type m (λ t. on_top s (λ v rest. cast p t v (goes_with l v rest) (goes_with l Null rest) w)))
  tests_fine m s w h =
      operand.type_fine b m (λ t. on_top s (λ v rest. cast p t v (goes_with l v rest) (goes_with l Null rest) w))
      (λ t. operand.top_fine b s (λ v rest. cast p t v (goes_with l v rest) (goes_with l Null rest) w) h (λ v rest fv fr. cast_fine t v (goes_with l v rest) (goes_with l Null rest) w (pushes v rest fv fr) (pushes Null rest tt fr)))

  unboxed_fine : (w : World) (t : Ty) (o : Value-F Value) (go : ℕ → Cell → Act) → KnownObjects b w.heap → ((j : ℕ) (c : Cell) → KnownValue b c.value → Fine (go j c)) → Fine (unboxed w t o go)
  unboxed_fine w t Value-F.Null go heap h = tt
  unboxed_fine w t (Value-F.Obj j) go heap h =
      operand.some_fine b (object_at w j) (λ (o : Object). if same_ty o.ty t then if_some (slice_get o.cells 0) (go j) else invalid_cast)
      (λ o e. operand.either_fine b (same_ty o.ty t) (if_some (slice_get o.cells 0) (go j)) invalid_cast
      (operand.some_fine b (slice_get o.cells 0) (go j) (λ c q. h j c (cell_there b o.cells 0 c (object_fine b w j o heap e) q))) tt)
  unboxed_fine w t (Value-F.Text units) go heap h = tt
  unboxed_fine w t _ go heap h = tt

  pub unboxes_fine : (m : Option Meaning) (s : List Value) (w : World) → KnownObjects b w.heap → KnownValues b s → Fine (on_type m (λ t. on_top s (λ v rest. unbox p w t v l rest)))
  unboxes_fine m s w heap h =
      operand.type_fine b m (λ t. on_top s (λ v rest. unbox p w t v l rest))
      (λ t. operand.top_fine b s (λ v rest. unbox p w t v l rest) h
      (λ v rest fv fr. operand.either_fine b (is_reference (storage p t)) Rattle.cil_semantics.specs.Acts.Stuck (unboxed w t (out-Value v) (λ j c. goes_with l (Ptr (Inside j (0 ∷ []))) rest)) tt
      (unboxed_fine w t (out-Value v) (λ j c. goes_with l (Ptr (Inside j (0 ∷ []))) rest) heap (λ j c fc. pushes (Ptr (Inside j (0 ∷ []))) rest tt fr))))

  boxed_act : (t : Ty) (v : Value) (rest : List Value) (w : World) → KnownWorld b w → KnownValue b v → KnownValues b rest → Fine (box p t v rest w l)
  boxed_act t v rest w world fv fr =
      operand.either_fine b (is_reference (storage p t)) (goes_with l v rest) (if_some (new_cell p t v) (λ c. goes_with_new w (record { ty = t; cells = c ∷ [] }) l rest)) (pushes v rest fv fr)
      (operand.some_fine b (new_cell p t v) (λ c. goes_with_new w (record { ty = t; cells = c ∷ [] }) l rest)
      (λ c e. ((boxed_fine b p t v c fv e, tt), pushed_new b w l rest world known fr)))

  pub boxes_fine : (m : Option Meaning) (s : List Value) (w : World) → KnownWorld b w → KnownValues b s → Fine (on_type m (λ t. on_top s (λ v rest. box p t v rest w l)))
  boxes_fine m s w world h =
      operand.type_fine b m (λ t. on_top s (λ v rest. box p t v rest w l)) (λ t. operand.top_fine b s (λ v rest. box p t v rest w l) h (λ v rest fv fr. boxed_act t v rest w world fv fr))

  pub unboxes_any_fine : (m : Option Meaning) (s : List Value) (w : World) → KnownObjects b w.heap → KnownValues b s
      → Fine (on_type m (λ t. on_top s (λ v rest. if is_reference (storage p t) then cast p t v (goes_with l v rest) invalid_cast w else unboxed w t (out-Value v) (λ j (c : Cell). goes_with l c.value rest))))
  unboxes_any_fine m s w heap h =
      operand.type_fine b m (λ t. on_top s (λ v rest. if is_reference (storage p t) then cast p t v (goes_with l v rest) invalid_cast w else unboxed w t (out-Value v) (λ j (c : Cell). goes_with l c.value rest)))
      (λ t. operand.top_fine b s (λ v rest. if is_reference (storage p t) then cast p t v (goes_with l v rest) invalid_cast w else unboxed w t (out-Value v) (λ j (c : Cell). goes_with l c.value rest)) h
      (λ v rest fv fr. operand.either_fine b (is_reference (storage p t)) (cast p t v (goes_with l v rest) invalid_cast w) (unboxed w t (out-Value v) (λ j (c : Cell). goes_with l c.value rest))
      (cast_fine t v (goes_with l v rest) invalid_cast w (pushes v rest fv fr) tt) (unboxed_fine w t (out-Value v) (λ j (c : Cell). goes_with l c.value rest) heap (λ j c fc. pushes c.value rest fc fr))))
