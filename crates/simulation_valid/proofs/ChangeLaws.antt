-- A store through a pointer changes the places of one frame, an object or statics; frames and world stay as they are to be.
use Rattle.std.proofs.Common.{◌≡◌, ℕ, zero, suc, ◌+◌, Bool, true, false, List, [], ◌∷◌, length, map, Option, Some, None, refl, sym, ap, ◌∙◌, subst, arith}
use Rattle.std.specs.Prelude.{◌==◌, if◌then◌else◌, option_map, option_and_then, slice_get, slice_set, IsTrue}
use Rattle.std.proofs.lemmas.List.{length-set}
use Rattle.cil_model.specs.declared.ty.Ty.{Ty}
use Rattle.cil_model.specs.declared.value.Value.{Value, out-Value}
use Rattle.cil_model.specs.declared.value.Value.TheVariants as value
use Rattle.cil_model.specs.declared.value.Pointer.{Pointer}
use Rattle.cil_model.specs.declared.value.Pointer.TheVariants.{Arg, Local, Inside, Static}
use Rattle.cil_model.specs.declared.contract.Contracts.{Contracts}
use Rattle.cil_model.specs.declared.contract.Group.TheVariants as group
use Rattle.cil_model.specs.declared.program.Program.{Program}
use Rattle.cil_model.specs.declared.program.MethodDesc.{MethodDesc}
use Rattle.cil_semantics.specs.Words.{maybe}
use Rattle.cil_semantics.specs.Types.{same_ty}
use Rattle.cil_semantics.specs.declared.state.Cell.{Cell}
use Rattle.cil_semantics.specs.declared.state.Object.{Object}
use Rattle.cil_semantics.specs.declared.state.Statics.{Statics}
use Rattle.cil_semantics.specs.declared.state.World.{World}
use Rattle.cil_semantics.specs.declared.state.Local.{Local as LocalState}
use Rattle.cil_semantics.specs.declared.state.ProgramPoint.{ProgramPoint}
use Rattle.cil_semantics.specs.declared.state.ProgramPoint.TheVariants.{LeadIn, InGroup, Rest}
use Rattle.cil_semantics.specs.declared.state.Frame.{Frame}
use Rattle.cil_semantics.specs.declared.state.Continuation.{Continuation}
use Rattle.cil_semantics.specs.declared.state.Continuation.TheVariants.{Push, PushObject, PushStruct, ThrowObject, BeginCallee, UseField, TryNext}
use Rattle.cil_semantics.specs.State.{object_at}
use Rattle.cil_semantics.specs.Places.{storage, write_path, write_cell, fields_in, field_tys, field_types, stored_in}
use Rattle.cil_semantics.specs.Unwind.{plan_at, set_statics, find_statics}
use Rattle.cil_semantics.specs.Frames.{in_frame, set_in, set_args, set_locals, set_object, set_static, static_cells, static_path, captured_tys, write}
use Rattle.cil_semantics.specs.Checks.{AddedNumbers}
use Rattle.machine_laws.specs.Answers.{is_below}
use Rattle.splice_facts.specs.WellFormed.{Bounds, WellFormedValue, WellFormedValues, WellFormedCells, WellFormedLocal, WellFormedObjects, WellFormedWorld, WellFormedPointer, WellFormedObject}
use Rattle.splice_facts.specs.Related.{Rewritten, ValidFrame, ValidFrames, HeightsBelow, HasResult, bounds, in_group, count_groups}
use Rattle.simulation_objects.proofs.StoredLaws.{boxed_fine, struct_fine, fields_fine, get_fine, cell_there, object_fine, static_cells_fine}
use Rattle.simulation_valid.specs.Changes.{LocalChange, ChangedFrame, ChangedFrames, Written}
use Rattle.simulation_valid.specs.Keeping.{StructThere, AllReturn, KeepsReturned, ReturnsFully, Placed, PlacedAt, TailHeights}
use Rattle.simulation_valid.proofs.WorldLaws.{WellFormedEntry, statics_found, statics_set}
use Rattle.simulation_valid.proofs.PushValidLaws.{counted_moved}
use Rattle.simulation_valid.specs.Steps.{NextHeight}

-- ---- values and cells

module _ (b : Bounds) where
  abbrev Fine : Value → Type 0
  Fine v = WellFormedValue b v

  set_fine : (vs : List Value) (i : ℕ) (v : Value) → WellFormedValues b vs → Fine v → WellFormedValues b (slice_set vs i v)
  set_fine [] i v h f = tt
  set_fine (x ∷ xs) zero v h f = (f, h.1)
  set_fine (x ∷ xs) (suc i) v h f = (h.0, set_fine xs i v h.1 f)

  pub cells_set : (cs : List Cell) (i : ℕ) (c : Cell) → WellFormedCells b cs → Fine c.value → WellFormedCells b (slice_set cs i c)
  cells_set [] i c h f = tt
  cells_set (x ∷ xs) zero c h f = (f, h.1)
  cells_set (x ∷ xs) (suc i) c h f = (h.0, cells_set xs i c h.1 f)

  module _ (p : Program) where
    pub kept_fine : (t : Ty) (v x : Value) → Fine v → stored_in p t v ≡ Some x → Fine x
    kept_fine t v x fine e = boxed_fine b p t v (record { ty = t; value = x }) fine (ap (option_map (λ w. as_cell w)) e)
      where
        as_cell : Value → Cell
        as_cell w = record { ty = t; value = w }

    path_written : (is : List ℕ) (t : Ty) (new old x : Value) → Fine new → Fine old → write_path p is t new old ≡ Some x → Fine x
    path_written [] t new old x fn fo e = kept_fine t new x fn e
    path_written (i ∷ is) t new old x fn fo e = by_type (λ ft v y fv q. path_written is ft new v y fn fv q) (slice_get (field_tys (field_types p t) (storage p t)) i) e
      where
        finished : (o : Option Value) → ((y : Value) → o ≡ Some y → Fine y) → option_map (λ w. value.Struct (slice_set (fields_in (out-Value old)) i w)) o ≡ Some x → Fine x
        finished None h q = absurd (cc q)
        finished (Some y) h q =
            let z : value.Struct (slice_set (fields_in (out-Value old)) i y) ≡ x = cc q in
            subst Fine z (struct_fine b (slice_set (fields_in (out-Value old)) i y) (set_fine (fields_in (out-Value old)) i y (fields_fine b old fo) (h y refl)))

        by_value : (ft : Ty) → ((v y : Value) → Fine v → write_path p is ft new v ≡ Some y → Fine y) → (o : Option Value) → slice_get (fields_in (out-Value old)) i ≡ o → option_and_then (λ v. option_map (λ w. value.Struct (slice_set (fields_in (out-Value old)) i w)) (write_path p is ft new v)) o ≡ Some x → Fine x
        by_value ft more None s q = absurd (cc q)
        by_value ft more (Some v) s q = finished (write_path p is ft new v) (λ y z. more v y (get_fine b (fields_in (out-Value old)) i v (fields_fine b old fo) s) z) q

        by_type : ((ft : Ty) (v y : Value) → Fine v → write_path p is ft new v ≡ Some y → Fine y) → (o : Option Ty) → option_and_then (λ ft. option_and_then (λ v. option_map (λ w. value.Struct (slice_set (fields_in (out-Value old)) i w)) (write_path p is ft new v)) (slice_get (fields_in (out-Value old)) i)) o ≡ Some x → Fine x
        by_type more None q = absurd (cc q)
        by_type more (Some ft) q = by_value ft (more ft) (slice_get (fields_in (out-Value old)) i) refl q

    cell_written : (is : List ℕ) (v : Value) (c d : Cell) → Fine v → Fine c.value → write_cell p is v c ≡ Some d → Fine d.value
    cell_written is v c d fv fc e = by_path (write_path p is c.ty v c.value) refl e
      where
        with_value : Value → Cell
        with_value w = record { ty = c.ty; value = w }

        by_path : (o : Option Value) → write_path p is c.ty v c.value ≡ o → option_map (λ w. with_value w) o ≡ Some d → Fine d.value
        by_path None s q = absurd (cc q)
        by_path (Some w) s q = let z : record { ty = c.ty; value = w } ≡ d = cc q in subst (λ (y : Cell). Fine y.value) z (path_written is c.ty v c.value w fv fc s)

    -- what a store leaves in a list of cells
    pub record CellsKept (cs ds : List Cell) : Type 0 where
      pub many : length ds ≡ length cs
      pub fine : WellFormedCells b cs → WellFormedCells b ds

    pub set_keeps : (is : List ℕ) (v : Value) (cs ds : List Cell) → Fine v → set_in p is v cs ≡ Some ds → CellsKept cs ds
    set_keeps [] v cs ds fv e = absurd (cc e)
    set_keeps (i ∷ is) v cs ds fv e = by_cell (slice_get cs i) refl e
      where
        by_new : (c : Cell) → slice_get cs i ≡ Some c → (o : Option Cell) → write_cell p is v c ≡ o → option_map (slice_set cs i) o ≡ Some ds → CellsKept cs ds
        by_new c s None w q = absurd (cc q)
        by_new c s (Some d) w q =
            let z : slice_set cs i d ≡ ds = cc q in
            subst (λ xs. CellsKept cs xs) z (record { many = length-set cs i d; fine = λ h. cells_set cs i d h (cell_written is v c d fv (cell_there b cs i c h s) w) })

        by_cell : (o : Option Cell) → slice_get cs i ≡ o → option_map (slice_set cs i) (option_and_then (write_cell p is v) o) ≡ Some ds → CellsKept cs ds
        by_cell None s q = absurd (cc q)
        by_cell (Some c) s q = by_new c s (write_cell p is v c) refl q

-- ---- frames

module _ (b : Bounds) where
  unchanged : (f : Frame) → ChangedFrame b f f
  unchanged f = record { local = f.local; same = refl; change = record { stack = refl; result = refl; captured = refl; args = refl; wide = refl; fine = λ x. x } }

  pub all_unchanged : (fs : List Frame) → ChangedFrames b fs fs
  all_unchanged [] = tt
  all_unchanged (f ∷ fs) = (unchanged f, all_unchanged fs)

  changed_twice : (f h j : Frame) → ChangedFrame b f h → ChangedFrame b h j → ChangedFrame b f j
  changed_twice f h j a c =
      let to_h : h.local ≡ a.local = ap (λ (z : Frame). z.local) a.same in
      record {
        local = c.local;
        same = c.same ∙ ap (λ (z : Frame). record z { local = c.local }) a.same;
        change = record {
          stack = c.change.stack ∙ ap (λ (l : LocalState). l.stack) to_h ∙ a.change.stack;
          result = c.change.result ∙ ap (λ (l : LocalState). l.result) to_h ∙ a.change.result;
          captured = c.change.captured ∙ ap (λ (l : LocalState). l.captured) to_h ∙ a.change.captured;
          args = c.change.args ∙ ap (λ (l : LocalState). length l.args) to_h ∙ a.change.args;
          wide = c.change.wide ∙ ap (λ (l : LocalState). length l.locals) to_h ∙ a.change.wide;
          fine = λ x. c.change.fine (subst (WellFormedLocal b) (sym to_h) (a.change.fine x));
        };
      }

  pub all_changed_twice : (fs hs js : List Frame) → ChangedFrames b fs hs → ChangedFrames b hs js → ChangedFrames b fs js
  all_changed_twice [] [] [] a c = tt
  all_changed_twice (f ∷ fs) (h ∷ hs) (j ∷ js) a c = (changed_twice f h j a.0 c.0, all_changed_twice fs hs js a.1 c.1)
  all_changed_twice [] (h ∷ hs) js a c = absurd a
  all_changed_twice (f ∷ fs) [] js a c = absurd a
  all_changed_twice [] [] (j ∷ js) a c = absurd c
  all_changed_twice (f ∷ fs) (h ∷ hs) [] a c = absurd c

  in_frame_changes : (fs gs : List Frame) (n m : ℕ) (go : LocalState → Option LocalState) → ((l l2 : LocalState) → go l ≡ Some l2 → LocalChange b l l2) → in_frame fs n m go ≡ Some gs → ChangedFrames b fs gs
  in_frame_changes [] gs n m go h e = absurd (cc e)
  in_frame_changes (f ∷ fs) gs n m go h e = by_tests (λ rest q. in_frame_changes fs rest n m go h q) (n == length fs) (f.method == m) e
    where
      at_top : (o : Option LocalState) → ((l : LocalState) → o ≡ Some l → LocalChange b f.local l) → option_map (λ l. record f { local = l } ∷ fs) o ≡ Some gs → ChangedFrames b (f ∷ fs) gs
      at_top None ch q = absurd (cc q)
      at_top (Some l) ch q = let z : (record f { local = l } ∷ fs) ≡ gs = cc q in subst (ChangedFrames b (f ∷ fs)) z (record { local = l; same = refl; change = ch l refl }, all_unchanged fs)

      behind : ((rest : List Frame) → in_frame fs n m go ≡ Some rest → ChangedFrames b fs rest) → (o : Option (List Frame)) → in_frame fs n m go ≡ o → option_map (λ rest. f ∷ rest) o ≡ Some gs → ChangedFrames b (f ∷ fs) gs
      behind more None s q = absurd (cc q)
      behind more (Some rest) s q = let z : (f ∷ rest) ≡ gs = cc q in subst (ChangedFrames b (f ∷ fs)) z (unchanged f, more rest s)

      by_tests : ((rest : List Frame) → in_frame fs n m go ≡ Some rest → ChangedFrames b fs rest) → (s t : Bool) → (if s then (if t then option_map (λ l. record f { local = l } ∷ fs) (go f.local) else None) else option_map (λ rest. f ∷ rest) (in_frame fs n m go)) ≡ Some gs → ChangedFrames b (f ∷ fs) gs
      by_tests more true true q = at_top (go f.local) (λ l s. h f.local l s) q
      by_tests more true false q = absurd (cc q)
      by_tests more false t q = behind more (in_frame fs n m go) refl q

  pub as_many : (fs gs : List Frame) → ChangedFrames b fs gs → length gs ≡ length fs
  as_many [] [] c = refl
  as_many (f ∷ fs) (h ∷ hs) c = ap suc (as_many fs hs c.1)
  as_many [] (h ∷ hs) c = absurd c
  as_many (f ∷ fs) [] c = absurd c

  pub same_count : (fs gs : List Frame) → ChangedFrames b fs gs → count_groups gs ≡ count_groups fs
  same_count [] [] c = refl
  same_count (f ∷ fs) (h ∷ hs) c = ap (λ (z : Frame). in_group z.at + count_groups hs) (c.0).same ∙ ap (λ n. in_group f.at + n) (same_count fs hs c.1)
  same_count [] (h ∷ hs) c = absurd c
  same_count (f ∷ fs) [] c = absurd c

-- ---- where a pointer leads

module _ (b : Bounds) (p : Program) where
  args_set : (is : List ℕ) (v : Value) → WellFormedValue b v → (l l2 : LocalState) → set_args p is v l ≡ Some l2 → LocalChange b l l2
  args_set is v fv l l2 e = by_cells (set_in p is v l.args) refl e
    where
      with_args : List Cell → LocalState
      with_args cs = record l { args = cs }

      by_cells : (o : Option (List Cell)) → set_in p is v l.args ≡ o → option_map (λ cs. with_args cs) o ≡ Some l2 → LocalChange b l l2
      by_cells None s q = absurd (cc q)
      by_cells (Some cs) s q =
          let z : record l { args = cs } ≡ l2 = cc q in
          subst (LocalChange b l) z
          (record { stack = refl; result = refl; captured = refl; args = (set_keeps b p is v l.args cs fv s).many; wide = refl; fine = λ x. record { args = (set_keeps b p is v l.args cs fv s).fine x.args; locals = x.locals; captured = x.captured; result = x.result; stack = x.stack } })

  locals_set : (is : List ℕ) (v : Value) → WellFormedValue b v → (l l2 : LocalState) → set_locals p is v l ≡ Some l2 → LocalChange b l l2
  locals_set is v fv l l2 e = by_cells (set_in p is v l.locals) refl e
    where
      with_locals : List Cell → LocalState
      with_locals cs = record l { locals = cs }

      by_cells : (o : Option (List Cell)) → set_in p is v l.locals ≡ o → option_map (λ cs. with_locals cs) o ≡ Some l2 → LocalChange b l l2
      by_cells None s q = absurd (cc q)
      by_cells (Some cs) s q =
          let z : record l { locals = cs } ≡ l2 = cc q in
          subst (LocalChange b l) z
          (record { stack = refl; result = refl; captured = refl; args = refl; wide = (set_keeps b p is v l.locals cs fv s).many; fine = λ x. record { args = x.args; locals = (set_keeps b p is v l.locals cs fv s).fine x.locals; captured = x.captured; result = x.result; stack = x.stack } })

  by_frames : (fs : List Frame) (w : World) (x : List Frame × World) (o : Option (List Frame)) → ((gs : List Frame) → o ≡ Some gs → ChangedFrames b fs gs) → option_map (λ gs. (gs, w)) o ≡ Some x → Written b p fs w x
  by_frames fs w x None h q = absurd (cc q)
  by_frames fs w x (Some gs) h q = let z : (gs, w) ≡ x = cc q in subst (Written b p fs w) z (record { frames = h gs refl; world = λ y. y; depth = refl })

  objects_set : (os : List Object) (i : ℕ) (o : Object) → WellFormedObjects b os → WellFormedObject b o → WellFormedObjects b (slice_set os i o)
  objects_set [] i o h c = tt
  objects_set (x ∷ xs) zero o h c = (c, h.1)
  objects_set (x ∷ xs) (suc i) o h c = (h.0, objects_set xs i o h.1 c)

  object_there : (os : List Object) (i : ℕ) (o : Object) → WellFormedObjects b os → slice_get os i ≡ Some o → WellFormedObject b o
  object_there [] i o h e = absurd (cc e)
  object_there (x ∷ xs) zero o h e = let q : x ≡ o = cc e in subst (WellFormedObject b) q h.0
  object_there (x ∷ xs) (suc i) o h e = object_there xs i o h.1 e

  object_set : (w : World) (j : ℕ) (cs : List Cell) → WellFormedCells b cs → WellFormedWorld b w → WellFormedWorld b (set_object w j cs)
  object_set w zero cs c h = h
  object_set w (suc i) cs c h = record { heap = by_object (slice_get w.heap i) refl; statics = h.statics }
    where
      by_object : (o : Option Object) → slice_get w.heap i ≡ o → WellFormedObjects b (maybe w.heap (λ (x : Object). slice_set w.heap i (record x { cells = cs })) o)
      by_object None e = h.heap
      by_object (Some x) e = objects_set w.heap i (record x { cells = cs }) h.heap ((object_there w.heap i x h.heap e).0, c)

  same_depth : (w : World) (j : ℕ) (cs : List Cell) → (set_object w j cs).depth ≡ w.depth
  same_depth w zero cs = refl
  same_depth w (suc i) cs = refl

  static_set : (w : World) (t : Ty) (cs : List Cell) → IsTrue (is_below b.types t) → WellFormedCells b cs → WellFormedWorld b w → WellFormedWorld b (set_static w t cs)
  static_set w t cs own c h = by_found (find_statics t w.statics) (λ s e. statics_found b t w.statics s h.statics e)
    where
      by_found : (o : Option Statics) → ((s : Statics) → o ≡ Some s → WellFormedEntry b s) → WellFormedWorld b (record w { statics = set_statics (same_ty t) (maybe (record { owner = t; init = None; cells = cs }) (λ (s : Statics). record s { cells = cs }) o) w.statics })
      by_found None f = record { heap = h.heap; statics = statics_set b (same_ty t) (record { owner = t; init = None; cells = cs }) w.statics h.statics own c }
      by_found (Some s) f = record { heap = h.heap; statics = statics_set b (same_ty t) (record s { cells = cs }) w.statics h.statics (f s refl).owner c }

  pub writes_keep : (fs : List Frame) (w : World) (q : Pointer) (v : Value) (x : List Frame × World) → WellFormedPointer b q → WellFormedValue b v → write p fs w q v ≡ Some x → Written b p fs w x
  writes_keep fs w (Arg n m i is) v x fq fv e = by_frames fs w x (in_frame fs n m (set_args p (i ∷ is) v)) (λ gs s. in_frame_changes b fs gs n m (set_args p (i ∷ is) v) (args_set (i ∷ is) v fv) s) e
  writes_keep fs w (Local n m i is) v x fq fv e = by_frames fs w x (in_frame fs n m (set_locals p (i ∷ is) v)) (λ gs s. in_frame_changes b fs gs n m (set_locals p (i ∷ is) v) (locals_set (i ∷ is) v fv) s) e
  writes_keep fs w (Inside j is) v x fq fv e = by_object (object_at w j) refl e
    where
      by_cells : (o : Object) → object_at w j ≡ Some o → (cs : Option (List Cell)) → set_in p is v o.cells ≡ cs → option_map (λ ds. (fs, set_object w j ds)) cs ≡ Some x → Written b p fs w x
      by_cells o s None t q = absurd (cc q)
      by_cells o s (Some ds) t q =
          let z : (fs, set_object w j ds) ≡ x = cc q in
          subst (Written b p fs w) z (record { frames = all_unchanged b fs; world = λ h. object_set w j ds ((set_keeps b p is v o.cells ds fv t).fine (object_fine b w j o h.heap s)) h; depth = same_depth w j ds })

      by_object : (o : Option Object) → object_at w j ≡ o → option_and_then (λ (y : Object). option_map (λ ds. (fs, set_object w j ds)) (set_in p is v y.cells)) o ≡ Some x → Written b p fs w x
      by_object None s q = absurd (cc q)
      by_object (Some o) s q = by_cells o s (set_in p is v o.cells) refl q
  writes_keep fs w (Static t f is) v x fq fv e = by_cells (set_in p (static_path p t f is) v (static_cells p w t)) refl e
    where
      by_cells : (cs : Option (List Cell)) → set_in p (static_path p t f is) v (static_cells p w t) ≡ cs → option_map (λ ds. (fs, set_static w t ds)) cs ≡ Some x → Written b p fs w x
      by_cells None s q = absurd (cc q)
      by_cells (Some ds) s q =
          let z : (fs, set_static w t ds) ≡ x = cc q in
          subst (Written b p fs w) z (record { frames = all_unchanged b fs; world = λ h. static_set w t ds fq ((set_keeps b p (static_path p t f is) v (static_cells p w t) ds fv s).fine (static_cells_fine b p w t h.statics)) h; depth = refl })

-- ---- frames that changed so are valid

pub struct_stays : (b : Continuation) (cs ds : List Cell) → length ds ≡ length cs → StructThere b cs → StructThere b ds
struct_stays Push cs ds e h = tt
struct_stays (PushObject x) cs ds e h = tt
struct_stays PushStruct [] ds e h = absurd h
struct_stays PushStruct (c ∷ cs) [] e h = let z : 0 ≡ suc (length cs) = e in absurd (omega (arith, z))
struct_stays PushStruct (c ∷ cs) (d ∷ ds) e h = tt
struct_stays (ThrowObject x) cs ds e h = tt
struct_stays BeginCallee cs ds e h = tt
struct_stays (UseField a) cs ds e h = tt
struct_stays (TryNext e1 t l) cs ds e h = tt

pub same_result : (p : Program) (at : ProgramPoint) (f : Frame) (l : LocalState) → l.result ≡ f.local.result → HasResult p f at → HasResult p (record f { local = l }) at
same_result p (LeadIn q) f l e h = tt
same_result p (Rest q) f l e h = tt
same_result p (InGroup group.Entry j q) f l e h = tt
same_result p (InGroup group.Exit j q) f l e h = λ z. subst (λ o. IsTrue (Rattle.std.specs.Prelude.is_some o)) (sym e) (h z)
same_result p (InGroup group.Throw j q) f l e h = tt
same_result p (InGroup group.Invariant j q) f l e h = tt
same_result p (InGroup group.Inline j q) f l e h = tt

pub same_counted : (p : Program) (at : ProgramPoint) (f : Frame) (l : LocalState) → l.result ≡ f.local.result → KeepsReturned p f at → KeepsReturned p (record f { local = l }) at
same_counted p (LeadIn q) f l e h = tt
same_counted p (Rest q) f l e h = tt
same_counted p (InGroup group.Entry j q) f l e h = tt
same_counted p (InGroup group.Exit j q) f l e h = counted_moved p f (InGroup group.Exit j q) q l e h
same_counted p (InGroup group.Throw j q) f l e h = tt
same_counted p (InGroup group.Invariant j q) f l e h = counted_moved p f (InGroup group.Invariant j q) q l e h
same_counted p (InGroup group.Inline j q) f l e h = tt

module _ (p : Program) (k : Contracts) (ms : List MethodDesc) (g : AddedNumbers) (r : Rewritten p k ms g) where
  abbrev Bs : Bounds
  Bs = bounds p k ms g r

  frame_over : (f : Frame) (l : LocalState) (fs gs : List Frame) → LocalChange Bs f.local l → length gs ≡ length fs → ValidFrame p k ms g r f fs → ValidFrame p k ms g r (record f { local = l }) gs
  frame_over f l fs gs c e v =
      record {
        stands = record { old = v.stands.old; wide = c.wide ∙ v.stands.wide; fits = v.stands.fits; initializes = v.stands.initializes };
        captured = ap (map (λ (x : Cell). x.ty)) c.captured ∙ v.captured ∙ ap (λ n. captured_tys p (record { number = n; method = f.method; type_args = f.type_args; method_args = f.method_args }) (plan_at k p f.method)) (sym e);
        has_result = same_result p f.at f l c.result v.has_result;
        fine = c.fine v.fine;
        fine_back = v.fine_back;
        current = v.current;
        leads = v.leads;
      }

  pub frame_changed : (f h : Frame) (fs gs : List Frame) → ChangedFrame Bs f h → length gs ≡ length fs → ValidFrame p k ms g r f fs → ValidFrame p k ms g r h gs
  frame_changed f h fs gs c e v = subst (λ z. ValidFrame p k ms g r z gs) (sym c.same) (frame_over f c.local fs gs c.change e v)

  pub valid_changed : (fs gs : List Frame) → ChangedFrames Bs fs gs → ValidFrames p k ms g r fs → ValidFrames p k ms g r gs
  valid_changed [] [] c v = tt
  valid_changed (f ∷ fs) (h ∷ hs) c v = (frame_changed f h fs hs c.0 (as_many Bs fs hs c.1) v.0, valid_changed fs hs c.1 v.1)
  valid_changed [] (h ∷ hs) c v = absurd c
  valid_changed (f ∷ fs) [] c v = absurd c

  pub return_changed : (f h : Frame) → ChangedFrame Bs f h → ReturnsFully p f → ReturnsFully p h
  return_changed f h c v = subst (ReturnsFully p) (sym c.same) (v.0, struct_stays f.continuation f.local.args (c.local).args (c.change).args v.1, v.2, v.3)

  pub counted_changed : (f h : Frame) → ChangedFrame Bs f h → KeepsReturned p f f.at → KeepsReturned p h h.at
  counted_changed f h c v = subst (λ (z : Frame). KeepsReturned p z z.at) (sym c.same) (same_counted p f.at f c.local (c.change).result v)

  pub returns_changed : (fs gs : List Frame) → ChangedFrames Bs fs gs → AllReturn p fs → AllReturn p gs
  returns_changed [] [] c v = tt
  returns_changed (f ∷ fs) (h ∷ hs) c v = (return_changed f h c.0 v.0, counted_changed f h c.0 v.1, returns_changed fs hs c.1 v.2)
  returns_changed [] (h ∷ hs) c v = absurd c
  returns_changed (f ∷ fs) [] c v = absurd c

  pub height_changed : (f h : Frame) (at : ProgramPoint) (n : ℕ) → ChangedFrame Bs f h → Rattle.splice_facts.specs.Related.HasHeight p k ms g r f at n → Rattle.splice_facts.specs.Related.HasHeight p k ms g r h at n
  height_changed f h at n c v =
      subst (λ z. Rattle.splice_facts.specs.Related.HasHeight p k ms g r z at n) (sym c.same)
      (λ plan old e outer. ap (λ s. Some (length s + n)) (c.change).stack ∙ v plan old e outer)

  pub heights_changed : (f h : Frame) (fs gs : List Frame) → h.method ≡ f.method → h.continuation ≡ f.continuation → ChangedFrames Bs fs gs → HeightsBelow p k ms g r f fs → HeightsBelow p k ms g r h gs
  heights_changed f h [] [] e q c v = tt
  heights_changed f h (x ∷ xs) (y ∷ ys) e q c v =
      let same_at : y.at ≡ x.at = ap (λ (z : Frame). z.at) (c.0).same in
      let n1 = Rattle.splice_facts.specs.Related.pushes p k ms g r f.method f.continuation in
      let to = Rattle.splice_facts.specs.Related.goes_on_at p k ms g r f.continuation x.at in (
        subst (λ b. Rattle.splice_facts.specs.Related.HasHeight p k ms g r y (Rattle.splice_facts.specs.Related.goes_on_at p k ms g r b y.at) (Rattle.splice_facts.specs.Related.pushes p k ms g r h.method b)) (sym q)
            (subst (λ m. Rattle.splice_facts.specs.Related.HasHeight p k ms g r y (Rattle.splice_facts.specs.Related.goes_on_at p k ms g r f.continuation y.at) (Rattle.splice_facts.specs.Related.pushes p k ms g r m f.continuation)) (sym e)
            (subst (λ at. Rattle.splice_facts.specs.Related.HasHeight p k ms g r y (Rattle.splice_facts.specs.Related.goes_on_at p k ms g r f.continuation at) n1) (sym same_at)
            (height_changed x y to n1 c.0 v.0))),
        heights_changed x y xs ys (ap (λ (z : Frame). z.method) (c.0).same) (ap (λ (z : Frame). z.continuation) (c.0).same) c.1 v.1,
      )
  heights_changed f h [] (y ∷ ys) e q c v = absurd c
  heights_changed f h (x ∷ xs) [] e q c v = absurd c

  pub tails_changed : (fs gs : List Frame) → ChangedFrames Bs fs gs → TailHeights p k ms g r fs → TailHeights p k ms g r gs
  tails_changed [] [] c v = tt
  tails_changed (x ∷ xs) (y ∷ ys) c v = heights_changed x y xs ys (ap (λ (z : Frame). z.method) (c.0).same) (ap (λ (z : Frame). z.continuation) (c.0).same) c.1 v
  tails_changed [] (y ∷ ys) c v = absurd c
  tails_changed (x ∷ xs) [] c v = absurd c

  pub next_changed : (n : ℕ) (fs gs : List Frame) → ChangedFrames Bs fs gs → NextHeight p k ms g r n fs → NextHeight p k ms g r n gs
  next_changed n [] [] c v = tt
  next_changed n (x ∷ xs) (y ∷ ys) c v =
      subst (λ at. Rattle.splice_facts.specs.Related.HasHeight p k ms g r y (Rattle.cil_semantics.specs.Unwind.next_place at) n) (sym (ap (λ (z : Frame). z.at) (c.0).same)) (height_changed x y (Rattle.cil_semantics.specs.Unwind.next_place x.at) n c.0 v)
  next_changed n [] (y ∷ ys) c v = absurd c
  next_changed n (x ∷ xs) [] c v = absurd c

  placed_at : (b : Continuation) (f : Frame) (l : LocalState) → PlacedAt p k ms g r b f → PlacedAt p k ms g r b (record f { local = l })
  placed_at Push f l v = v
  placed_at (PushObject x) f l v = v
  placed_at PushStruct f l v = v
  placed_at (ThrowObject x) f l v = v
  placed_at BeginCallee f l v = v
  placed_at (UseField a) f l v = v
  placed_at (TryNext e t x) f l v = v

  pub placed_changed : (b : Continuation) (fs gs : List Frame) → ChangedFrames Bs fs gs → Placed p k ms g r b fs → Placed p k ms g r b gs
  placed_changed b [] [] c v = tt
  placed_changed b (x ∷ xs) (y ∷ ys) c v = (
    subst (λ z. PlacedAt p k ms g r b z) (sym (c.0).same) (placed_at b x (c.0).local v.0),
    subst (λ d. Placed p k ms g r d ys) (sym (ap (λ (z : Frame). z.continuation) (c.0).same)) (placed_changed x.continuation xs ys c.1 v.1),
  )
  placed_changed b [] (y ∷ ys) c v = absurd c
  placed_changed b (x ∷ xs) [] c v = absurd c
