-- What a place keeps of a well-formed value is well formed, and what is read of one too.
use Rattle.std.proofs.Common.{◌≡◌, ℕ, zero, suc, Bool, true, false, List, [], ◌∷◌, length, Option, Some, None, refl, sym, ap, ◌∙◌, subst}
use Rattle.std.specs.Prelude.{◌==◌, if◌then◌else◌, map, option_map, option_and_then, slice_get}
use Rattle.cil_model.specs.declared.ty.Ty.{Ty}
use Rattle.cil_model.specs.declared.value.Value.{Value, out-Value, I4, I8, Native, Row_of-Value, end_of-Value, more_of-Value}
use Rattle.cil_model.specs.declared.value.Value as val
use Rattle.cil_model.specs.declared.value.Value.TheOpen.{Value-F}
use Rattle.cil_model.specs.declared.program.Program.{Program}
use Rattle.il_opcodes.specs.declared.class.Storage.{Storage}
use Rattle.il_opcodes.specs.declared.class.Storage.TheVariants.{Truncated, Long, NativeInt, Reference, Address, Fields, Opaque, Anything, Void}
use Rattle.il_opcodes.specs.declared.class.Bits.{Bits}
use Rattle.cil_model.specs.declared.value.Pointer.{Pointer}
use Rattle.cil_model.specs.declared.value.Pointer.TheVariants.{Arg, Local, Inside, Static}
use Rattle.cil_semantics.specs.Words.{maybe}
use Rattle.cil_semantics.specs.Types.{same_ty}
use Rattle.cil_semantics.specs.declared.state.Cell.{Cell}
use Rattle.cil_semantics.specs.declared.state.Object.{Object}
use Rattle.cil_semantics.specs.declared.state.Statics.{Statics}
use Rattle.cil_semantics.specs.declared.state.World.{World}
use Rattle.cil_semantics.specs.declared.state.Frame.{Frame}
use Rattle.cil_semantics.specs.State.{object_at}
use Rattle.cil_semantics.specs.Unwind.{find_statics}
use Rattle.cil_semantics.specs.Frames.{frame_at, cell_in, static_cells, static_path, read}
use Rattle.cil_semantics.specs.Numbers.{truncated_small}
use Rattle.cil_semantics.specs.Places.{storage, if_reference, if_address, if_opaque, if_long, to_native, truncated_value, each_stored, stored_struct, stored_by_storage, stored_within, stored_in, field_types, new_cell, fields_in, read_path, default_by_storage, default_within, default_cells, static_layout}
use Rattle.splice_facts.specs.WellFormed.{Bounds, WellFormedValue, AllWellFormed, WellFormedValues, WellFormedCells, WellFormedLocal, WellFormedObjects, WellFormedStatics, WellFormedWorld}
use Rattle.simulation_objects.specs.Calls.{WellFormedFrames}

abbrev cell_with : Ty → Value → Cell
cell_with t v = record { ty = t; value = v }

module _ (b : Bounds) where
  abbrev Fine : Value → Type 0
  Fine v = WellFormedValue b v

  abbrev AllFine : List Value → Type 0
  AllFine vs = WellFormedValues b vs

  -- ---- structs

  from_items : {m : _} (row : Row_of-Value m) → AllFine (val.items-the_row-Value m row) → AllWellFormed b row
  from_items end_of-Value h = tt
  from_items (more_of-Value v rest) h = (h.0, from_items rest h.1)

  to_items : {m : _} (row : Row_of-Value m) → AllWellFormed b row → AllFine (val.items-the_row-Value m row)
  to_items end_of-Value h = tt
  to_items (more_of-Value v rest) h = (h.0, to_items rest h.1)

  same_parts : (xs ys : List Value) → Value-F.Struct xs ≡ Value-F.Struct ys → xs ≡ ys
  same_parts xs ys e = cc e

  pub parts_fine : (v : Value) (vs : List Value) → Fine v → out-Value v ≡ Value-F.Struct vs → AllFine vs
  unfolding Rattle.cil_model.specs.declared.value.Value.out-Value denote.Hole.Carrier.out
  parts_fine (val.Struct' shape row) vs fine e = subst AllFine (sym (val.items_shown-the_row-Value-0 shape row) ∙ same_parts _ vs e) (to_items row fine)
  parts_fine _ vs fine e = absurd (cc e)

  pub whole_fine : (v : Value) (vs : List Value) → out-Value v ≡ Value-F.Struct vs → AllFine vs → Fine v
  unfolding Rattle.cil_model.specs.declared.value.Value.out-Value denote.Hole.Carrier.out
  whole_fine (val.Struct' shape row) vs e fine = from_items row (subst AllFine (sym (same_parts _ vs e) ∙ val.items_shown-the_row-Value-0 shape row) fine)
  whole_fine _ vs e fine = absurd (cc e)

  struct_of : (vs : List Value) → out-Value (val.Struct vs) ≡ Value-F.Struct vs
  unfolding Rattle.cil_model.specs.declared.value.Value.out-Value denote.Hole.Carrier.out
  struct_of vs = ap Value-F.Struct (val.items_shown-the_row-Value-0 _ _ ∙ val.items_hidden-the_row-Value-0 vs)

  pub struct_fine : (vs : List Value) → AllFine vs → Fine (val.Struct vs)
  struct_fine vs fine = whole_fine (val.Struct vs) vs (struct_of vs) fine

  -- ---- what a place keeps

  pub cut_fine : (n : Bits) (s : Bool) (o : Value-F Value) (x : Value) → truncated_value n s o ≡ Some x → Fine x
  cut_fine n s (Value-F.I4 z) x e = let q : I4 (truncated_small n s z) ≡ x = cc e in subst Fine q tt
  cut_fine n s _ x e = absurd (cc e)

  pub long_fine : (o : Value-F Value) (x : Value) → if_long o ≡ Some x → Fine x
  long_fine (Value-F.I8 z) x e = let q : I8 z ≡ x = cc e in subst Fine q tt
  long_fine _ x e = absurd (cc e)

  pub native_fine : (o : Value-F Value) (x : Value) → to_native o ≡ Some x → Fine x
  native_fine (Value-F.Native z) x e = let q : Native z ≡ x = cc e in subst Fine q tt
  native_fine (Value-F.I4 z) x e = let q : Native z ≡ x = cc e in subst Fine q tt
  native_fine _ x e = absurd (cc e)

  pub same_reference : (o : Value-F Value) (v x : Value) → if_reference o v ≡ Some x → v ≡ x
  same_reference Value-F.Null v x e = cc e
  same_reference (Value-F.Obj k) v x e = cc e
  same_reference (Value-F.Text u) v x e = cc e
  same_reference _ v x e = absurd (cc e)

  pub same_address : (o : Value-F Value) (v x : Value) → if_address o v ≡ Some x → v ≡ x
  same_address (Value-F.Ptr q) v x e = cc e
  same_address Value-F.Null v x e = cc e
  same_address _ v x e = absurd (cc e)

  pub same_unread : (o : Value-F Value) (v x : Value) → if_opaque o v ≡ Some x → v ≡ x
  same_unread (Value-F.Opaque q) v x e = cc e
  same_unread _ v x e = absurd (cc e)

  each_fine : (store : Ty → Value → Option Value) → ((t : Ty) (v x : Value) → Fine v → store t v ≡ Some x → Fine x) → (ts : List Ty) (vs ws : List Value) → AllFine vs → each_stored store ts vs ≡ Some ws → AllFine ws
  each_fine store h [] [] ws fine e = let q : [] ≡ ws = cc e in subst AllFine q tt
  each_fine store h [] (v ∷ vs) ws fine e = absurd (cc e)
  each_fine store h (t ∷ ts) [] ws fine e = absurd (cc e)
  each_fine store h (t ∷ ts) (v ∷ vs) ws fine e = by_both (λ rest q. each_fine store h ts vs rest fine.1 q) (store t v) (each_stored store ts vs) refl refl e
    where
      by_both : ((rest : List Value) → each_stored store ts vs ≡ Some rest → AllFine rest) → (o : Option Value) (os : Option (List Value)) → store t v ≡ o → each_stored store ts vs ≡ os → option_and_then (λ w. option_map (λ rest. w ∷ rest) os) o ≡ Some ws → AllFine ws
      by_both more None os eo es q = absurd (cc q)
      by_both more (Some w) None eo es q = absurd (cc q)
      by_both more (Some w) (Some rest) eo es q = let z : (w ∷ rest) ≡ ws = cc q in subst AllFine z (h t v w fine.0 eo, more rest es)

  struct_kept : (store : Ty → Value → Option Value) → ((t : Ty) (v x : Value) → Fine v → store t v ≡ Some x → Fine x) → (ts : List Ty) (o : Value-F Value) (x : Value) → ((vs : List Value) → o ≡ Value-F.Struct vs → AllFine vs) → stored_struct store ts o ≡ Some x → Fine x
  struct_kept store h ts (Value-F.Struct vs) x fine e = by_each (each_stored store ts vs) refl e
    where
      by_each : (r : Option (List Value)) → each_stored store ts vs ≡ r → option_map val.Struct r ≡ Some x → Fine x
      by_each None q z = absurd (cc z)
      by_each (Some ws) q z = let y : val.Struct ws ≡ x = cc z in subst Fine y (struct_fine ws (each_fine store h ts vs ws (fine vs refl) q))
  struct_kept store h ts _ x fine e = absurd (cc e)

  kept_fine : (store : Ty → Value → Option Value) → ((t : Ty) (v x : Value) → Fine v → store t v ≡ Some x → Fine x) → (ts : List Ty) (v x : Value) (h : Storage) → Fine v → stored_by_storage store ts v h ≡ Some x → Fine x
  kept_fine store f ts v x (Truncated n s) fine e = cut_fine n s (out-Value v) x e
  kept_fine store f ts v x Long fine e = long_fine (out-Value v) x e
  kept_fine store f ts v x NativeInt fine e = native_fine (out-Value v) x e
  kept_fine store f ts v x Reference fine e = subst Fine (same_reference (out-Value v) v x e) fine
  kept_fine store f ts v x Address fine e = subst Fine (same_address (out-Value v) v x e) fine
  kept_fine store f ts v x (Fields n) fine e = struct_kept store f ts (out-Value v) x (λ vs q. parts_fine v vs fine q) e
  kept_fine store f ts v x Opaque fine e = subst Fine (same_unread (out-Value v) v x e) fine
  kept_fine store f ts v x Anything fine e = let q : v ≡ x = cc e in subst Fine q fine
  kept_fine store f ts v x Void fine e = absurd (cc e)

  module _ (p : Program) where
    pub stored_fine : (n : ℕ) (t : Ty) (v x : Value) → Fine v → stored_within n p t v ≡ Some x → Fine x
    unfolding stored_within
    stored_fine zero t v x fine e = absurd (cc e)
    stored_fine (suc n) t v x fine e = kept_fine (stored_within n p) (stored_fine n) (field_types p t) v x (storage p t) fine e

    pub boxed_fine : (t : Ty) (v : Value) (c : Cell) → Fine v → new_cell p t v ≡ Some c → Fine c.value
    boxed_fine t v c fine e = by_value (stored_in p t v) refl e
      where
        by_value : (o : Option Value) → stored_in p t v ≡ o → option_map (λ w. cell_with t w) o ≡ Some c → Fine c.value
        by_value None q z = absurd (cc z)
        by_value (Some w) q z = let y : cell_with t w ≡ c = cc z in subst (λ (d : Cell). Fine d.value) y (stored_fine 1001 t v w fine q)

  -- ---- what is read

  pub fields_fine : (v : Value) → Fine v → AllFine (fields_in (out-Value v))
  fields_fine v fine = by_out (out-Value v) refl
    where
      by_out : (o : Value-F Value) → out-Value v ≡ o → AllFine (fields_in o)
      by_out (Value-F.Struct vs) e = parts_fine v vs fine e
      by_out _ e = tt

  pub get_fine : (vs : List Value) (i : ℕ) (x : Value) → AllFine vs → slice_get vs i ≡ Some x → Fine x
  get_fine [] i x fine e = absurd (cc e)
  get_fine (v ∷ vs) zero x fine e = let q : v ≡ x = cc e in subst Fine q fine.0
  get_fine (v ∷ vs) (suc i) x fine e = get_fine vs i x fine.1 e

  path_fine : (is : List ℕ) (v x : Value) → Fine v → read_path is v ≡ Some x → Fine x
  path_fine [] v x fine e = let q : v ≡ x = cc e in subst Fine q fine
  path_fine (i ∷ is) v x fine e = by_part (λ y fy q. path_fine is y x fy q) (slice_get (fields_in (out-Value v)) i) refl e
    where
      by_part : ((y : Value) → Fine y → read_path is y ≡ Some x → Fine x) → (o : Option Value) → slice_get (fields_in (out-Value v)) i ≡ o → option_and_then (read_path is) o ≡ Some x → Fine x
      by_part more None q z = absurd (cc z)
      by_part more (Some y) q z = more y (get_fine (fields_in (out-Value v)) i y (fields_fine v fine) q) z

  pub cell_there : (cs : List Cell) (i : ℕ) (c : Cell) → WellFormedCells b cs → slice_get cs i ≡ Some c → Fine c.value
  cell_there [] i c fine e = absurd (cc e)
  cell_there (x ∷ cs) zero c fine e = let q : x ≡ c = cc e in subst (λ (d : Cell). Fine d.value) q fine.0
  cell_there (x ∷ cs) (suc i) c fine e = cell_there cs i c fine.1 e

  cell_fine : (cs : List Cell) (is : List ℕ) (x : Value) → WellFormedCells b cs → cell_in cs is ≡ Some x → Fine x
  cell_fine cs [] x fine e = absurd (cc e)
  cell_fine cs (i ∷ is) x fine e = by_cell (slice_get cs i) refl e
    where
      by_cell : (o : Option Cell) → slice_get cs i ≡ o → option_and_then (λ (c : Cell). read_path is c.value) o ≡ Some x → Fine x
      by_cell None q z = absurd (cc z)
      by_cell (Some c) q z = path_fine is c.value x (cell_there cs i c fine q) z

  frame_fine : (fs : List Frame) (n m : ℕ) (f : Frame) → WellFormedFrames b fs → frame_at fs n m ≡ Some f → WellFormedLocal b f.local
  frame_fine [] n m f fine e = absurd (cc e)
  frame_fine (h ∷ hs) n m f fine e = by_number (λ q. frame_fine hs n m f fine.1 q) (n == length hs) (h.method == m) e
    where
      by_number : (frame_at hs n m ≡ Some f → WellFormedLocal b f.local) → (s t : Bool) → (if s then (if t then Some h else None) else frame_at hs n m) ≡ Some f → WellFormedLocal b f.local
      by_number more true true q = let y : h ≡ f = cc q in subst (λ (z : Frame). WellFormedLocal b z.local) y fine.0
      by_number more true false q = absurd (cc q)
      by_number more false t q = more q

  in_frame_fine : (fs : List Frame) (n m : ℕ) (is : List ℕ) (cells : Frame → List Cell) (x : Value) → WellFormedFrames b fs → ((f : Frame) → WellFormedLocal b f.local → WellFormedCells b (cells f)) → option_and_then (λ (f : Frame). cell_in (cells f) is) (frame_at fs n m) ≡ Some x → Fine x
  in_frame_fine fs n m is cells x fine go e = by_frame (frame_at fs n m) refl e
    where
      by_frame : (o : Option Frame) → frame_at fs n m ≡ o → option_and_then (λ (f : Frame). cell_in (cells f) is) o ≡ Some x → Fine x
      by_frame None q z = absurd (cc z)
      by_frame (Some f) q z = cell_fine (cells f) is x (go f (frame_fine fs n m f fine q)) z

  objects_fine : (os : List Object) (i : ℕ) (o : Object) → WellFormedObjects b os → slice_get os i ≡ Some o → WellFormedCells b o.cells
  objects_fine [] i o fine e = absurd (cc e)
  objects_fine (y ∷ os) zero o fine e = let q : y ≡ o = cc e in subst (λ (z : Object). WellFormedCells b z.cells) q fine.0.1
  objects_fine (y ∷ os) (suc i) o fine e = objects_fine os i o fine.1 e

  pub object_fine : (w : World) (j : ℕ) (o : Object) → WellFormedObjects b w.heap → object_at w j ≡ Some o → WellFormedCells b o.cells
  object_fine w zero o fine e = absurd (cc e)
  object_fine w (suc j) o fine e = objects_fine w.heap j o fine e

  statics_fine : (t : Ty) (ss : List Statics) (s : Statics) → WellFormedStatics b ss → find_statics t ss ≡ Some s → WellFormedCells b s.cells
  statics_fine t [] s fine e = absurd (cc e)
  statics_fine t (y ∷ ss) s fine e = by_owner (λ q. statics_fine t ss s fine.2 q) (same_ty y.owner t) e
    where
      by_owner : (find_statics t ss ≡ Some s → WellFormedCells b s.cells) → (c : Bool) → (if c then Some y else find_statics t ss) ≡ Some s → WellFormedCells b s.cells
      by_owner more true q = let z : y ≡ s = cc q in subst (λ (v : Statics). WellFormedCells b v.cells) z fine.1
      by_owner more false q = more q

  module _ (p : Program) where
    map_fine : (first : Ty → Value) → ((t : Ty) → Fine (first t)) → (ts : List Ty) → AllFine (map first ts)
    map_fine first h [] = tt
    map_fine first h (t ∷ ts) = (h t, map_fine first h ts)

    by_kind : (first : Ty → Value) → ((t : Ty) → Fine (first t)) → (ts : List Ty) (h : Storage) → Fine (default_by_storage first ts h)
    by_kind first f ts (Fields n) = struct_fine (map first ts) (map_fine first f ts)
    by_kind first f ts (Truncated n s) = tt
    by_kind first f ts Long = tt
    by_kind first f ts NativeInt = tt
    by_kind first f ts Reference = tt
    by_kind first f ts Address = tt
    by_kind first f ts Opaque = tt
    by_kind first f ts Anything = tt
    by_kind first f ts Void = tt

    pub default_fine : (n : ℕ) (t : Ty) → Fine (default_within n p t)
    unfolding default_within
    default_fine zero t = tt
    default_fine (suc n) t = by_kind (default_within n p) (default_fine n) (field_types p t) (storage p t)

    pub defaults_fine : (ts : List Ty) → WellFormedCells b (default_cells p ts)
    defaults_fine [] = tt
    defaults_fine (t ∷ ts) = (default_fine 1001 t, defaults_fine ts)

    pub static_cells_fine : (w : World) (t : Ty) → WellFormedStatics b w.statics → WellFormedCells b (static_cells p w t)
    static_cells_fine w t fine = by_statics (find_statics t w.statics) (λ s e. statics_fine t w.statics s fine e)
      where
        by_statics : (o : Option Statics) → ((s : Statics) → o ≡ Some s → WellFormedCells b s.cells) → WellFormedCells b (maybe (default_cells p (map (λ (x : ℕ × Ty). x.1) (static_layout p t))) (λ (s : Statics). s.cells) o)
        by_statics None f = defaults_fine (map (λ (x : ℕ × Ty). x.1) (static_layout p t))
        by_statics (Some s) f = f s refl

    -- what stands where a pointer leads
    pub read_fine : (fs : List Frame) (w : World) (q : Pointer) (x : Value) → WellFormedFrames b fs → WellFormedWorld b w → read p fs w q ≡ Some x → Fine x
    read_fine fs w (Arg n m i is) x ff fw e = in_frame_fine fs n m (i ∷ is) (λ f. f.local.args) x ff (λ f h. h.args) e
    read_fine fs w (Local n m i is) x ff fw e = in_frame_fine fs n m (i ∷ is) (λ f. f.local.locals) x ff (λ f h. h.locals) e
    read_fine fs w (Inside j is) x ff fw e = by_object (object_at w j) refl e
      where
        by_object : (o : Option Object) → object_at w j ≡ o → option_and_then (λ (y : Object). cell_in y.cells is) o ≡ Some x → Fine x
        by_object None q z = absurd (cc z)
        by_object (Some y) q z = cell_fine y.cells is x (object_fine w j y fw.heap q) z
    read_fine fs w (Static t f is) x ff fw e = cell_fine (static_cells p w t) (static_path p t f is) x (static_cells_fine w t fw.statics) e
