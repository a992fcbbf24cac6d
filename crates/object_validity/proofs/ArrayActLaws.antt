-- Instructions on arrays leave references to objects that are there.
use Rattle.std.proofs.Common.{◌≡◌, ℕ, zero, suc, List, [], ◌∷◌, length, Option, Some}
use Rattle.std.specs.Prelude.{if◌then◌else◌, nat_lt, not, ◌&&◌, replicate, codes, ℤ, pos, negsuc}
use Rattle.cil_model.specs.declared.ty.Ty.{Ty}
use Rattle.cil_model.specs.declared.value.Value.{Value, out-Value, Native, Ptr}
use Rattle.cil_model.specs.declared.value.Value.TheOpen.{Value-F}
use Rattle.cil_model.specs.declared.value.Pointer.{Pointer}
use Rattle.cil_model.specs.declared.value.Pointer.TheVariants.{Inside}
use Rattle.cil_model.specs.declared.program.Program.{Program}
use Rattle.cil_model.specs.declared.program.Meaning.{Meaning}
use Rattle.il_opcodes.specs.declared.class.Storage.{Storage}
use Rattle.cil_semantics.specs.Places.{storage, is_reference, stored, stored_in, default_cell}
use Rattle.cil_semantics.specs.State.{object_at}
use Rattle.cil_semantics.specs.declared.state.Object.{Object}
use Rattle.cil_semantics.specs.declared.state.World.{World}
use Rattle.cil_semantics.specs.Acts.{Act, Raise, Load, Store, on_top, on_two, if_some, goes_with, numeric, out_of_range, item_type, index_number, made_array, on_array, at_index, on_item, fits_item, put_item, store_item, on_type}
use Rattle.cil_semantics.specs.declared.state.Local.{Local}
use Rattle.object_validity.specs.Known.{KnownValue, KnownValues, KnownCells, KnownLocal, KnownWorld, KnownAct}
use Rattle.object_validity.proofs.StoredLaws.{stored_fine, default_fine}
use Rattle.object_validity.proofs.GrowthLaws.{restacked, pushed_new}
use Rattle.object_validity.proofs.ChangeLaws.{stored_seen}
use Rattle.object_validity.proofs.OperandLaws as operand
use Rattle.object_validity.proofs.PlaceActLaws as place

module _ (p : Program) (b : ℕ) (l : Local) (known : KnownLocal b l) where
  abbrev Fine : Act → Type 0
  Fine a = KnownAct b a

  pushes : (v : Value) (s : List Value) → KnownValue b v → KnownValues b s → Fine (goes_with l v s)
  pushes = place.pushes_fine p b l known

  all_default : (n : ℕ) (t : Ty) → KnownCells b (replicate n (default_cell p t))
  all_default zero t = tt
  all_default (suc n) t = (default_fine b p 1001 t, all_default n t)

  made_fine : (t : Ty) (z : ℤ) (w : World) (rest : List Value) → KnownWorld b w → KnownValues b rest → Fine (made_array p t z w l rest)
  made_fine t (pos n) w rest world h = (all_default n t, pushed_new b w l rest world known h)
  made_fine t (negsuc n) w rest world h = tt

  pub arrays_begin : (m : Option Meaning) (s : List Value) (w : World) → KnownWorld b w → KnownValues b s → Fine (on_type m (λ t. on_top s (λ n rest. if_some (index_number (numeric n)) (λ z. made_array p t z w l rest))))
  arrays_begin m s w world h =
      operand.type_fine b m (λ t. on_top s (λ n rest. if_some (index_number (numeric n)) (λ z. made_array p t z w l rest)))
      (λ t. operand.top_fine b s (λ n rest. if_some (index_number (numeric n)) (λ z. made_array p t z w l rest)) h
      (λ n rest fn fr. operand.some_fine b (index_number (numeric n)) (λ z. made_array p t z w l rest) (λ z e. made_fine t z w rest world fr)))

  on_array_fine : (w : World) (v : Value-F Value) (go : ℕ → Object → Ty → Act) → ((j : ℕ) (o : Object) (t : Ty) → Fine (go j o t)) → Fine (on_array w v go)
  on_array_fine w Value-F.Null go h = tt
  on_array_fine w (Value-F.Obj j) go h =
      operand.some_fine b (object_at w j) (λ (o : Object). if_some (item_type o) (go j o)) (λ o e. operand.some_fine b (item_type o) (go j o) (λ t q. h j o t))
  on_array_fine w _ go h = tt

  index_fine : (n : ℕ) (z : ℤ) (go : ℕ → Act) → ((j : ℕ) → Fine (go j)) → Fine (at_index n z go)
  index_fine n (pos j) go h = operand.either_fine b (nat_lt j n) (go j) out_of_range (h j) tt
  index_fine n (negsuc j) go h = tt

  on_item_fine : (w : World) (a n : Value) (go : Pointer → Ty → Act) → ((q : Pointer) (t : Ty) → Fine (go q t)) → Fine (on_item w a n go)
  on_item_fine w a n go h =
      operand.some_fine b (index_number (numeric n)) (λ z. on_array w (out-Value a) (λ j o t. at_index (length o.cells) z (λ i. go (Inside j (i ∷ [])) t)))
      (λ z e. on_array_fine w (out-Value a) (λ j o t. at_index (length o.cells) z (λ i. go (Inside j (i ∷ [])) t)) (λ j o t. index_fine (length o.cells) z (λ i. go (Inside j (i ∷ [])) t) (λ i. h (Inside j (i ∷ [])) t)))

  pub lengths_fine : (s : List Value) (w : World) → KnownValues b s → Fine (on_top s (λ a rest. on_array w (out-Value a) (λ j o t. goes_with l (Native (pos (length o.cells))) rest)))
  lengths_fine s w h =
      operand.top_fine b s (λ a rest. on_array w (out-Value a) (λ j o t. goes_with l (Native (pos (length o.cells))) rest)) h
      (λ a rest fa fr. on_array_fine w (out-Value a) (λ j o t. goes_with l (Native (pos (length o.cells))) rest) (λ j o t. pushes (Native (pos (length o.cells))) rest tt fr))

  pub items_point : (s : List Value) (w : World) → KnownValues b s → Fine (on_two s (λ a n rest. on_item w a n (λ q t. goes_with l (Ptr q) rest)))
  items_point s w h = operand.two_fine b s (λ a n rest. on_item w a n (λ q t. goes_with l (Ptr q) rest)) h (λ a n rest fa fn fr. on_item_fine w a n (λ q t. goes_with l (Ptr q) rest) (λ q t. pushes (Ptr q) rest tt fr))

  pub items_load : (x : Storage) (s : List Value) (w : World) → KnownValues b s → Fine (on_two s (λ a n rest. on_item w a n (λ q u. Load q x (record l { stack = rest }))))
  items_load x s w h =
      operand.two_fine b s (λ a n rest. on_item w a n (λ q u. Load q x (record l { stack = rest }))) h
      (λ a n rest fa fn fr. on_item_fine w a n (λ q u. Load q x (record l { stack = rest })) (λ q u. restacked b l rest known fr))

  pub typed_items_load : (m : Option Meaning) (s : List Value) (w : World) → KnownValues b s → Fine (on_type m (λ t. on_two s (λ a n rest. on_item w a n (λ q u. Load q (storage p t) (record l { stack = rest })))))
  typed_items_load m s w h = operand.type_fine b m (λ t. on_two s (λ a n rest. on_item w a n (λ q u. Load q (storage p t) (record l { stack = rest })))) (λ t. items_load (storage p t) s w h)

  -- what is stored refers to no other objects
  abbrev KeepsFine : (Value → Option Value) → Type 0
  KeepsFine store = (v x : Value) → KnownValue b v → store v ≡ Some x → KnownValue b x

  put_fine : (w : World) (store : Value → Option Value) (a i v : Value) (rest : List Value) → KeepsFine store → KnownValue b v → KnownValues b rest → Fine (put_item p w l store a i v rest)
  put_fine w store a i v rest kept fv fr =
      on_item_fine w a i (λ q t. if_some (store v) (λ x. if is_reference (storage p t) && not (fits_item p w t x) then Raise (codes "System.ArrayTypeMismatchException") else Store q x (record l { stack = rest })))
      (λ q t. operand.some_fine b (store v) (λ x. if is_reference (storage p t) && not (fits_item p w t x) then Raise (codes "System.ArrayTypeMismatchException") else Store q x (record l { stack = rest }))
      (λ x e. operand.either_fine b (is_reference (storage p t) && not (fits_item p w t x)) (Raise (codes "System.ArrayTypeMismatchException")) (Store q x (record l { stack = rest })) tt
      (kept v x fv e, restacked b l rest known fr)))

  store_fine : (w : World) (store : Value → Option Value) (s : List Value) → KeepsFine store → KnownValues b s → Fine (store_item p w l store s)
  store_fine w store [] kept h = tt
  store_fine w store (v ∷ []) kept h = tt
  store_fine w store (v ∷ i ∷ []) kept h = tt
  store_fine w store (v ∷ i ∷ a ∷ rest) kept h = put_fine w store a i v rest kept h.0 h.1.1.1

  pub items_store : (x : Storage) (s : List Value) (w : World) → KnownValues b s → Fine (store_item p w l (stored x) s)
  items_store x s w h = store_fine w (stored x) s (λ v y fv e. stored_seen b x v y fv e) h

  pub typed_items_store : (m : Option Meaning) (s : List Value) (w : World) → KnownValues b s → Fine (on_type m (λ t. store_item p w l (stored_in p t) s))
  typed_items_store m s w h = operand.type_fine b m (λ t. store_item p w l (stored_in p t) s) (λ t. store_fine w (stored_in p t) s (λ v y fv e. stored_fine b p 1001 t v y fv e) h)
