-- What a store leaves, and what an instruction reads as its kind, refers to the objects that the value and the place did.
use Rattle.std.proofs.Common.{◌≡◌, ℕ, zero, suc, Bool, true, false, List, [], ◌∷◌, length, Option, Some, None, refl, ap, subst}
use Rattle.std.specs.Prelude.{◌==◌, if◌then◌else◌, option_map, option_and_then, slice_get, slice_set}
use Rattle.cil_model.specs.declared.ty.Ty.{Ty}
use Rattle.cil_model.specs.declared.value.Value.{Value, out-Value, Native}
use Rattle.cil_model.specs.declared.value.Value.TheVariants as value
use Rattle.cil_model.specs.declared.value.Value.TheOpen.{Value-F}
use Rattle.cil_model.specs.declared.program.Program.{Program}
use Rattle.il_opcodes.specs.declared.class.Storage.{Storage}
use Rattle.il_opcodes.specs.declared.class.Storage.TheVariants.{Truncated, Long, NativeInt, Reference, Address, Fields, Opaque, Anything, Void}
use Rattle.cil_semantics.specs.declared.state.Cell.{Cell}
use Rattle.cil_semantics.specs.Places.{storage, write_path, write_cell, fields_in, field_tys, field_types, stored_in, stored, seen_as, if_native, if_struct}
use Rattle.cil_semantics.specs.Frames.{set_in}
use Rattle.object_validity.specs.Known.{KnownValue, KnownValues, KnownCells}
use Rattle.object_validity.proofs.StoredLaws.{boxed_fine, struct_fine, fields_fine, get_fine, cell_there, native_fine, cut_fine, long_fine, same_reference, same_address, same_unread}

-- what an instruction reads of a place as its kind
native_seen : (b : ℕ) (o : Value-F Value) (x : Value) → if_native o ≡ Some x → KnownValue b x
native_seen b (Value-F.Native z) x e = let q : Native z ≡ x = cc e in subst (KnownValue b) q tt
native_seen b _ x e = absurd (cc e)

same_struct : (n : ℕ) (o : Value-F Value) (v x : Value) → if_struct n o v ≡ Some x → v ≡ x
same_struct n (Value-F.Struct vs) v x e = by_test (length vs == n) e
  where
    by_test : (c : Bool) → (if c then Some v else None) ≡ Some x → v ≡ x
    by_test true q = cc q
    by_test false q = absurd (cc q)
same_struct n _ v x e = absurd (cc e)

-- what an instruction that names a kind stores
pub stored_seen : (b : ℕ) (h : Storage) (v x : Value) → KnownValue b v → stored h v ≡ Some x → KnownValue b x
stored_seen b (Truncated n s) v x fine e = cut_fine b n s (out-Value v) x e
stored_seen b Long v x fine e = long_fine b (out-Value v) x e
stored_seen b NativeInt v x fine e = native_fine b (out-Value v) x e
stored_seen b Reference v x fine e = subst (KnownValue b) (same_reference b (out-Value v) v x e) fine
stored_seen b Address v x fine e = subst (KnownValue b) (same_address b (out-Value v) v x e) fine
stored_seen b (Fields n) v x fine e = subst (KnownValue b) (same_struct n (out-Value v) v x e) fine
stored_seen b Opaque v x fine e = subst (KnownValue b) (same_unread b (out-Value v) v x e) fine
stored_seen b Anything v x fine e = let q : v ≡ x = cc e in subst (KnownValue b) q fine
stored_seen b Void v x fine e = absurd (cc e)

pub seen_fine : (b : ℕ) (h : Storage) (v x : Value) → KnownValue b v → seen_as h v ≡ Some x → KnownValue b x
seen_fine b (Truncated n s) v x fine e = stored_seen b (Truncated n s) v x fine e
seen_fine b Long v x fine e = stored_seen b Long v x fine e
seen_fine b NativeInt v x fine e = native_seen b (out-Value v) x e
seen_fine b Reference v x fine e = stored_seen b Reference v x fine e
seen_fine b Address v x fine e = stored_seen b Address v x fine e
seen_fine b (Fields n) v x fine e = stored_seen b (Fields n) v x fine e
seen_fine b Opaque v x fine e = stored_seen b Opaque v x fine e
seen_fine b Anything v x fine e = stored_seen b Anything v x fine e
seen_fine b Void v x fine e = stored_seen b Void v x fine e

module _ (b : ℕ) where
  abbrev Fine : Value → Type 0
  Fine v = KnownValue b v

  set_fine : (vs : List Value) (i : ℕ) (v : Value) → KnownValues b vs → Fine v → KnownValues b (slice_set vs i v)
  set_fine [] i v h f = tt
  set_fine (x ∷ xs) zero v h f = (f, h.1)
  set_fine (x ∷ xs) (suc i) v h f = (h.0, set_fine xs i v h.1 f)

  pub cells_set : (cs : List Cell) (i : ℕ) (c : Cell) → KnownCells b cs → Fine c.value → KnownCells b (slice_set cs i c)
  cells_set [] i c h f = tt
  cells_set (x ∷ xs) zero c h f = (f, h.1)
  cells_set (x ∷ xs) (suc i) c h f = (h.0, cells_set xs i c h.1 f)

  module _ (p : Program) where
    pub kept_fine : (t : Ty) (v x : Value) → Fine v → stored_in p t v ≡ Some x → Fine x
    kept_fine t v x fine e = boxed_fine b p t v (record { ty = t; value = x }) fine (ap (option_map (λ w. as_cell w)) e)
      where
        as_cell : Value → Cell
        as_cell w = record { ty = t; value = w }

    path_written : (is : List ℕ) (t : Ty) (new old x : Value) → Fine new → Fine old → write_path p is t new old ≡ Some x → Fine x
    path_written [] t new old x fn fo e = kept_fine t new x fn e
    path_written (i ∷ is) t new old x fn fo e = by_type (λ ft v y fv q. path_written is ft new v y fn fv q) (slice_get (field_tys (field_types p t) (storage p t)) i) e
      where
        finished : (o : Option Value) → ((y : Value) → o ≡ Some y → Fine y) → option_map (λ w. value.Struct (slice_set (fields_in (out-Value old)) i w)) o ≡ Some x → Fine x
        finished None h q = absurd (cc q)
        finished (Some y) h q =
            let z : value.Struct (slice_set (fields_in (out-Value old)) i y) ≡ x = cc q in
            subst Fine z (struct_fine b (slice_set (fields_in (out-Value old)) i y) (set_fine (fields_in (out-Value old)) i y (fields_fine b old fo) (h y refl)))

        by_value : (ft : Ty) → ((v y : Value) → Fine v → write_path p is ft new v ≡ Some y → Fine y) → (o : Option Value) → slice_get (fields_in (out-Value old)) i ≡ o → option_and_then (λ v. option_map (λ w. value.Struct (slice_set (fields_in (out-Value old)) i w)) (write_path p is ft new v)) o ≡ Some x → Fine x
        by_value ft more None s q = absurd (cc q)
        by_value ft more (Some v) s q = finished (write_path p is ft new v) (λ y z. more v y (get_fine b (fields_in (out-Value old)) i v (fields_fine b old fo) s) z) q

        by_type : ((ft : Ty) (v y : Value) → Fine v → write_path p is ft new v ≡ Some y → Fine y) → (o : Option Ty) → option_and_then (λ ft. option_and_then (λ v. option_map (λ w. value.Struct (slice_set (fields_in (out-Value old)) i w)) (write_path p is ft new v)) (slice_get (fields_in (out-Value old)) i)) o ≡ Some x → Fine x
        by_type more None q = absurd (cc q)
        by_type more (Some ft) q = by_value ft (more ft) (slice_get (fields_in (out-Value old)) i) refl q

    cell_written : (is : List ℕ) (v : Value) (c d : Cell) → Fine v → Fine c.value → write_cell p is v c ≡ Some d → Fine d.value
    cell_written is v c d fv fc e = by_path (write_path p is c.ty v c.value) refl e
      where
        with_value : Value → Cell
        with_value w = record { ty = c.ty; value = w }

        by_path : (o : Option Value) → write_path p is c.ty v c.value ≡ o → option_map (λ w. with_value w) o ≡ Some d → Fine d.value
        by_path None s q = absurd (cc q)
        by_path (Some w) s q = let z : record { ty = c.ty; value = w } ≡ d = cc q in subst (λ (y : Cell). Fine y.value) z (path_written is c.ty v c.value w fv fc s)

    pub set_keeps : (is : List ℕ) (v : Value) (cs ds : List Cell) → Fine v → KnownCells b cs → set_in p is v cs ≡ Some ds → KnownCells b ds
    set_keeps [] v cs ds fv fc e = absurd (cc e)
    set_keeps (i ∷ is) v cs ds fv fc e = by_cell (slice_get cs i) refl e
      where
        by_new : (c : Cell) → slice_get cs i ≡ Some c → (o : Option Cell) → write_cell p is v c ≡ o → option_map (slice_set cs i) o ≡ Some ds → KnownCells b ds
        by_new c s None w q = absurd (cc q)
        by_new c s (Some d) w q = let z : slice_set cs i d ≡ ds = cc q in subst (KnownCells b) z (cells_set cs i d fc (cell_written is v c d fv (cell_there b cs i c fc s) w))

        by_cell : (o : Option Cell) → slice_get cs i ≡ o → option_map (slice_set cs i) (option_and_then (write_cell p is v) o) ≡ Some ds → KnownCells b ds
        by_cell None s q = absurd (cc q)
        by_cell (Some c) s q = by_new c s (write_cell p is v c) refl q
