-- Instructions on arrays leave well-formed values.
use Rattle.std.proofs.Common.{◌≡◌, ℕ, zero, suc, List, [], ◌∷◌, length, Option, Some, refl}
use Rattle.std.specs.Prelude.{if◌then◌else◌, nat_lt, not, ◌&&◌, replicate, codes, ℤ, pos, negsuc}
use Rattle.cil_model.specs.declared.ty.Ty.{Ty}
use Rattle.cil_model.specs.declared.value.Value.{Value, out-Value, Native, Obj, Ptr}
use Rattle.cil_model.specs.declared.value.Value.TheOpen.{Value-F}
use Rattle.cil_model.specs.declared.value.Pointer.{Pointer}
use Rattle.cil_model.specs.declared.value.Pointer.TheVariants.{Inside}
use Rattle.cil_model.specs.declared.contract.Contracts.{Contracts}
use Rattle.cil_model.specs.declared.program.Program.{Program}
use Rattle.cil_model.specs.declared.program.MethodDesc.{MethodDesc}
use Rattle.cil_model.specs.declared.program.Meaning.{Meaning}
use Rattle.il_opcodes.specs.declared.class.Storage.{Storage}
use Rattle.simulation_valid.proofs.WorldLaws.{array_typed}
use Rattle.cil_semantics.specs.Places.{storage, is_reference, stored, stored_in, default_cell}
use Rattle.cil_semantics.specs.State.{object_at, next_object}
use Rattle.cil_semantics.specs.declared.state.Object.{Object}
use Rattle.cil_semantics.specs.declared.state.World.{World}
use Rattle.cil_semantics.specs.declared.state.Frame.{Frame}
use Rattle.cil_semantics.specs.Acts.{Act, Raise, Load, Store, on_top, on_two, if_some, goes_with, numeric, out_of_range, item_type, index_number, made_array, on_array, at_index, on_item, fits_item, put_item, store_item, on_type}
use Rattle.cil_semantics.specs.Checks.{AddedNumbers}
use Rattle.splice_facts.specs.WellFormed.{Bounds, WellFormedValue, WellFormedValues, WellFormedCells, WellFormedPointer}
use Rattle.splice_facts.specs.Related.{Rewritten, bounds}
use Rattle.simulation_objects.proofs.StoredLaws.{stored_fine, default_fine}
use Rattle.simulation_valid.specs.Keeping.{ValidPlaces}
use Rattle.simulation_valid.specs.Steps.{FineAct}
use Rattle.simulation_valid.proofs.OperandLaws as operand
use Rattle.simulation_valid.proofs.PlaceActLaws as place
use Rattle.simulation_valid.proofs.MoveValidLaws.{stored_seen}
use Rattle.simulation_valid.proofs.UnwindValidLaws.{restacked}

module _ (p : Program) (k : Contracts) (ms : List MethodDesc) (g : AddedNumbers) (r : Rewritten p k ms g) (f : Frame) (fs : List Frame) (places : ValidPlaces p k ms g r f fs) where
  abbrev Bs : Bounds
  Bs = bounds p k ms g r

  abbrev Fine : Act → Type 0
  Fine a = FineAct p k ms g r f fs a

  pushes : (v : Value) (s : List Value) → WellFormedValue Bs v → WellFormedValues Bs s → Fine (goes_with f.local v s)
  pushes = place.pushes_fine p k ms g r f fs places

  all_default : (n : ℕ) (t : Ty) → WellFormedCells Bs (replicate n (default_cell p t))
  all_default zero t = tt
  all_default (suc n) t = (default_fine Bs p 1001 t, all_default n t)

  made_fine : (t : Ty) (z : ℤ) (w : World) (rest : List Value) → WellFormedValues Bs rest → Fine (made_array p t z w f.local rest)
  made_fine t (pos n) w rest h = (((array_typed Bs t, all_default n t), tt), restacked p k ms g r f (Obj (next_object w) ∷ rest) fs places (tt, h), refl)
  made_fine t (negsuc n) w rest h = tt

  pub arrays_begin : (m : Option Meaning) (s : List Value) (w : World) → WellFormedValues Bs s → Fine (on_type m (λ t. on_top s (λ n rest. if_some (index_number (numeric n)) (λ z. made_array p t z w f.local rest))))
  arrays_begin m s w h =
      operand.type_fine p k ms g r f fs m (λ t. on_top s (λ n rest. if_some (index_number (numeric n)) (λ z. made_array p t z w f.local rest)))
      (λ t. operand.top_fine p k ms g r f fs s (λ n rest. if_some (index_number (numeric n)) (λ z. made_array p t z w f.local rest)) h
      (λ n rest fn fr. operand.some_fine p k ms g r f fs (index_number (numeric n)) (λ z. made_array p t z w f.local rest) (λ z e. made_fine t z w rest fr)))

  on_array_fine : (w : World) (v : Value-F Value) (go : ℕ → Object → Ty → Act) → ((j : ℕ) (o : Object) (t : Ty) → Fine (go j o t)) → Fine (on_array w v go)
  on_array_fine w Value-F.Null go h = tt
  on_array_fine w (Value-F.Obj j) go h =
      operand.some_fine p k ms g r f fs (object_at w j) (λ (o : Object). if_some (item_type o) (go j o)) (λ o e. operand.some_fine p k ms g r f fs (item_type o) (go j o) (λ t q. h j o t))
  on_array_fine w _ go h = tt

  index_fine : (n : ℕ) (z : ℤ) (go : ℕ → Act) → ((j : ℕ) → Fine (go j)) → Fine (at_index n z go)
  index_fine n (pos j) go h = operand.either_fine p k ms g r f fs (nat_lt j n) (go j) out_of_range (h j) tt
  index_fine n (negsuc j) go h = tt

  on_item_fine : (w : World) (a n : Value) (go : Pointer → Ty → Act) → ((q : Pointer) (t : Ty) → WellFormedPointer Bs q → Fine (go q t)) → Fine (on_item w a n go)
  on_item_fine w a n go h =
      operand.some_fine p k ms g r f fs (index_number (numeric n)) (λ z. on_array w (out-Value a) (λ j o t. at_index (length o.cells) z (λ i. go (Inside j (i ∷ [])) t)))
      (λ z e. on_array_fine w (out-Value a) (λ j o t. at_index (length o.cells) z (λ i. go (Inside j (i ∷ [])) t)) (λ j o t. index_fine (length o.cells) z (λ i. go (Inside j (i ∷ [])) t) (λ i. h (Inside j (i ∷ [])) t tt)))

  pub lengths_fine : (s : List Value) (w : World) → WellFormedValues Bs s → Fine (on_top s (λ a rest. on_array w (out-Value a) (λ j o t. goes_with f.local (Native (pos (length o.cells))) rest)))
  lengths_fine s w h =
      operand.top_fine p k ms g r f fs s (λ a rest. on_array w (out-Value a) (λ j o t. goes_with f.local (Native (pos (length o.cells))) rest)) h
      (λ a rest fa fr. on_array_fine w (out-Value a) (λ j o t. goes_with f.local (Native (pos (length o.cells))) rest) (λ j o t. pushes (Native (pos (length o.cells))) rest tt fr))

  pub items_point : (s : List Value) (w : World) → WellFormedValues Bs s → Fine (on_two s (λ a n rest. on_item w a n (λ q t. goes_with f.local (Ptr q) rest)))
  items_point s w h = operand.two_fine p k ms g r f fs s (λ a n rest. on_item w a n (λ q t. goes_with f.local (Ptr q) rest)) h (λ a n rest fa fn fr. on_item_fine w a n (λ q t. goes_with f.local (Ptr q) rest) (λ q t fq. pushes (Ptr q) rest fq fr))

  pub items_load : (x : Storage) (s : List Value) (w : World) → WellFormedValues Bs s → Fine (on_two s (λ a n rest. on_item w a n (λ q u. Load q x (record f.local { stack = rest }))))
  items_load x s w h =
      operand.two_fine p k ms g r f fs s (λ a n rest. on_item w a n (λ q u. Load q x (record f.local { stack = rest }))) h
      (λ a n rest fa fn fr. on_item_fine w a n (λ q u. Load q x (record f.local { stack = rest })) (λ q u fq. (restacked p k ms g r f rest fs places fr, refl, fq)))

  pub typed_items_load : (m : Option Meaning) (s : List Value) (w : World) → WellFormedValues Bs s → Fine (on_type m (λ t. on_two s (λ a n rest. on_item w a n (λ q u. Load q (storage p t) (record f.local { stack = rest })))))
  typed_items_load m s w h = operand.type_fine p k ms g r f fs m (λ t. on_two s (λ a n rest. on_item w a n (λ q u. Load q (storage p t) (record f.local { stack = rest })))) (λ t. items_load (storage p t) s w h)

  -- what is stored keeps well-formed values so
  abbrev KeepsFine : (Value → Option Value) → Type 0
  KeepsFine store = (v x : Value) → WellFormedValue Bs v → store v ≡ Some x → WellFormedValue Bs x

  put_fine : (w : World) (store : Value → Option Value) (a i v : Value) (rest : List Value) → KeepsFine store → WellFormedValue Bs v → WellFormedValues Bs rest → Fine (put_item p w f.local store a i v rest)
  put_fine w store a i v rest kept fv fr =
      on_item_fine w a i (λ q t. if_some (store v) (λ x. if is_reference (storage p t) && not (fits_item p w t x) then Raise (codes "System.ArrayTypeMismatchException") else Store q x (record f.local { stack = rest })))
      (λ q t fq. operand.some_fine p k ms g r f fs (store v) (λ x. if is_reference (storage p t) && not (fits_item p w t x) then Raise (codes "System.ArrayTypeMismatchException") else Store q x (record f.local { stack = rest }))
      (λ x e. operand.either_fine p k ms g r f fs (is_reference (storage p t) && not (fits_item p w t x)) (Raise (codes "System.ArrayTypeMismatchException")) (Store q x (record f.local { stack = rest })) tt
      (restacked p k ms g r f rest fs places fr, refl, fq, kept v x fv e)))

  store_fine : (w : World) (store : Value → Option Value) (s : List Value) → KeepsFine store → WellFormedValues Bs s → Fine (store_item p w f.local store s)
  store_fine w store [] kept h = tt
  store_fine w store (v ∷ []) kept h = tt
  store_fine w store (v ∷ i ∷ []) kept h = tt
  store_fine w store (v ∷ i ∷ a ∷ rest) kept h = put_fine w store a i v rest kept h.0 h.1.1.1

  pub items_store : (x : Storage) (s : List Value) (w : World) → WellFormedValues Bs s → Fine (store_item p w f.local (stored x) s)
  items_store x s w h = store_fine w (stored x) s (λ v y fv e. stored_seen Bs x v y fv e) h

  pub typed_items_store : (m : Option Meaning) (s : List Value) (w : World) → WellFormedValues Bs s → Fine (on_type m (λ t. store_item p w f.local (stored_in p t) s))
  typed_items_store m s w h = operand.type_fine p k ms g r f fs m (λ t. store_item p w f.local (stored_in p t) s) (λ t. store_fine w (stored_in p t) s (λ v y fv e. stored_fine Bs p 1001 t v y fv e) h)
