-- Loads, stores and statics in the topmost frame.
use Rattle.std.proofs.Common.{◌≡◌, ℕ, suc, ◌+◌, ◌≤◌, Bool, true, false, List, [], ◌∷◌, length, Option, Some, None, refl, sym, ap, ◌∙◌, subst}
use Rattle.std.specs.Prelude.{option_and_then}
use Rattle.cil_model.specs.declared.value.Value.{Value, out-Value, Ptr}
use Rattle.cil_model.specs.declared.value.Value.TheOpen.{Value-F}
use Rattle.cil_model.specs.declared.value.Pointer.{Pointer}
use Rattle.cil_model.specs.declared.contract.Contracts.{Contracts}
use Rattle.cil_model.specs.declared.program.Program.{Program}
use Rattle.cil_model.specs.declared.program.MethodDesc.{MethodDesc}
use Rattle.il_opcodes.specs.declared.class.Storage.{Storage}
use Rattle.il_opcodes.specs.declared.class.Storage.TheVariants.{Truncated, Long, NativeInt, Reference, Address, Fields, Opaque, Anything, Void}
use Rattle.cil_semantics.specs.declared.state.World.{World}
use Rattle.cil_semantics.specs.declared.state.Local.{Local}
use Rattle.cil_semantics.specs.declared.state.Frame.{Frame}
use Rattle.cil_semantics.specs.declared.state.Access.{Access}
use Rattle.cil_semantics.specs.declared.state.Access.TheVariants.{Read, Write, PointTo}
use Rattle.cil_semantics.specs.State.{Next, pushed}
use Rattle.cil_semantics.specs.Places.{stored, seen_as, if_native, if_struct}
use Rattle.cil_semantics.specs.Unwind.{place_in, next_place}
use Rattle.cil_semantics.specs.Frames.{if_there, read, write, load, store, copy, use_static, go_on_top}
use Rattle.cil_semantics.specs.Checks.{AddedNumbers}
use Rattle.splice_facts.specs.WellFormed.{Bounds, WellFormedValue, WellFormedPointer, WellFormedWorld, WellFormedAccess}
use Rattle.splice_facts.specs.Input.{access_count}
use Rattle.splice_facts.specs.Related.{Rewritten, ValidFrames, HasHeight, bounds}
use Rattle.simulation_objects.specs.Calls.{WellFormedFrames}
use Rattle.simulation_objects.proofs.StoredLaws.{native_fine, read_fine, cut_fine, long_fine, same_reference, same_address, same_unread}
use Rattle.simulation_valid.proofs.HeightLaws.{but_none, and_one}
use Rattle.simulation_valid.specs.Keeping.{StaysValid, ValidPlaces}
use Rattle.simulation_valid.proofs.ArriveValidLaws.{below_same}
use Rattle.simulation_valid.proofs.UnwindValidLaws.{restacked, places_of}
use Rattle.simulation_valid.proofs.PushValidLaws.{arrives_from}
use Rattle.simulation_valid.proofs.ChangeLaws.{writes_keep, same_result, same_counted, frame_changed, return_changed, counted_changed, valid_changed, returns_changed, heights_changed, height_changed, as_many, same_count}
use Rattle.simulation_valid.specs.Changes.{ChangedFrames, Written}
use Rattle.simulation_valid.specs.Steps.{Topmost, Leaves}

-- what an instruction reads of a place as its kind
native_seen : (b : Bounds) (o : Value-F Value) (x : Value) → if_native o ≡ Some x → WellFormedValue b x
native_seen b (Value-F.Native z) x e = let q : Rattle.cil_model.specs.declared.value.Value.Native z ≡ x = cc e in subst (WellFormedValue b) q tt
native_seen b _ x e = absurd (cc e)

same_struct : (n : ℕ) (o : Value-F Value) (v x : Value) → if_struct n o v ≡ Some x → v ≡ x
same_struct n (Value-F.Struct vs) v x e = by_test (Rattle.std.specs.Prelude.◌==◌ (length vs) n) e
  where
    by_test : (c : Bool) → Rattle.std.specs.Prelude.if◌then◌else◌ c (Some v) None ≡ Some x → v ≡ x
    by_test true q = cc q
    by_test false q = absurd (cc q)
same_struct n _ v x e = absurd (cc e)

-- what an instruction that names a kind stores
pub stored_seen : (b : Bounds) (h : Storage) (v x : Value) → WellFormedValue b v → stored h v ≡ Some x → WellFormedValue b x
stored_seen b (Truncated n s) v x fine e = cut_fine b n s (out-Value v) x e
stored_seen b Long v x fine e = long_fine b (out-Value v) x e
stored_seen b NativeInt v x fine e = native_fine b (out-Value v) x e
stored_seen b Reference v x fine e = subst (WellFormedValue b) (same_reference b (out-Value v) v x e) fine
stored_seen b Address v x fine e = subst (WellFormedValue b) (same_address b (out-Value v) v x e) fine
stored_seen b (Fields n) v x fine e = subst (WellFormedValue b) (same_struct n (out-Value v) v x e) fine
stored_seen b Opaque v x fine e = subst (WellFormedValue b) (same_unread b (out-Value v) v x e) fine
stored_seen b Anything v x fine e = let q : v ≡ x = cc e in subst (WellFormedValue b) q fine
stored_seen b Void v x fine e = absurd (cc e)

pub seen_fine : (b : Bounds) (h : Storage) (v x : Value) → WellFormedValue b v → seen_as h v ≡ Some x → WellFormedValue b x
seen_fine b (Truncated n s) v x fine e = stored_seen b (Truncated n s) v x fine e
seen_fine b Long v x fine e = stored_seen b Long v x fine e
seen_fine b NativeInt v x fine e = native_seen b (out-Value v) x e
seen_fine b Reference v x fine e = stored_seen b Reference v x fine e
seen_fine b Address v x fine e = stored_seen b Address v x fine e
seen_fine b (Fields n) v x fine e = stored_seen b (Fields n) v x fine e
seen_fine b Opaque v x fine e = stored_seen b Opaque v x fine e
seen_fine b Anything v x fine e = stored_seen b Anything v x fine e
seen_fine b Void v x fine e = stored_seen b Void v x fine e

module _ (p : Program) (k : Contracts) (ms : List MethodDesc) (g : AddedNumbers) (r : Rewritten p k ms g) where
  abbrev Stays : Next → Type 0
  Stays x = StaysValid p k ms g r x

  abbrev Bs : Bounds
  Bs = bounds p k ms g r

  pub frames_fine : (fs : List Frame) → ValidFrames p k ms g r fs → WellFormedFrames Bs fs
  frames_fine [] v = tt
  frames_fine (f ∷ fs) v = ((v.0).fine, frames_fine fs v.1)

  -- the topmost frame with other locals
  pub relocal : (f : Frame) (l : Local) (fs : List Frame) (w : World) → Topmost p k ms g r f fs w → ValidPlaces p k ms g r (record f { local = l }) fs → l.result ≡ f.local.result → Topmost p k ms g r (record f { local = l }) fs w
  relocal f l fs w top places same =
      record {
        frame = record {
          stands = record { old = places.old; wide = places.wide; fits = top.frame.stands.fits; initializes = places.initializes };
          captured = places.captured;
          has_result = same_result p f.at f l same top.frame.has_result;
          fine = places.fine;
          fine_back = places.fine_back;
          current = top.frame.current;
          leads = top.frame.leads;
        };
        as_named = places.as_named;
        counted = same_counted p f.at f l same top.counted;
        below = below_same p k ms g r f (record f { local = l }) fs w refl refl top.below;
        count = top.count;
        deep = top.deep;
      }

  -- frames that a store changed
  pub topmost_changed : (f h : Frame) (fs hs : List Frame) (w w2 : World) → Topmost p k ms g r f fs w → ChangedFrames Bs (f ∷ fs) (h ∷ hs) → WellFormedWorld Bs w2 → w2.depth ≡ w.depth → Topmost p k ms g r h hs w2
  topmost_changed f h fs hs w w2 top c ok same =
      record {
        frame = frame_changed p k ms g r f h fs hs c.0 (as_many Bs fs hs c.1) top.frame;
        as_named = return_changed p k ms g r f h c.0 top.as_named;
        counted = counted_changed p k ms g r f h c.0 top.counted;
        below = record { others = valid_changed p k ms g r fs hs c.1 top.below.others; returning = returns_changed p k ms g r fs hs c.1 top.below.returning; heights = heights_changed p k ms g r f h fs hs (ap (λ (z : Frame). z.method) (c.0).same) (ap (λ (z : Frame). z.continuation) (c.0).same) c.1 top.below.heights; world = ok };
        count = same ∙ top.count ∙ sym (same_count Bs (f ∷ fs) (h ∷ hs) c);
        deep = subst (λ n. n ≤ suc k.settings.guard) (sym same) top.deep;
      }

  -- the frame goes on behind the instruction
  pub goes_on_valid : (f : Frame) (l : Local) (fs : List Frame) (w : World) → Topmost p k ms g r f fs w → Leaves p k ms g r f l fs 0 → Stays (Rattle.cil_semantics.specs.Frames.go_on p k f l fs w)
  goes_on_valid f l fs w top a = arrives_from p k ms g r f (place_in f.at + 1) l fs w top a.places a.same (λ plan old e outer. but_none (length l.stack) _ (a.height plan old e outer))

  pub pushes_on_valid : (f : Frame) (l : Local) (v : Value) (fs : List Frame) (w : World) → Topmost p k ms g r f fs w → Leaves p k ms g r f l fs 1 → WellFormedValue Bs v → Stays (Rattle.cil_semantics.specs.Frames.go_on p k f (pushed v l) fs w)
  pushes_on_valid f l v fs w top a fine = arrives_from p k ms g r f (place_in f.at + 1) (pushed v l) fs w top (restacked p k ms g r (record f { local = l }) (v ∷ l.stack) fs a.places (fine, a.places.fine.stack)) a.same (λ plan old e outer. and_one (length l.stack) _ (a.height plan old e outer))

  pub loads_valid : (q : Pointer) (h : Storage) (f : Frame) (l : Local) (fs : List Frame) (w : World) → Topmost p k ms g r f fs w → Leaves p k ms g r f l fs 1 → WellFormedPointer Bs q → Stays (load p k q h f l fs w)
  loads_valid q h f l fs w top a fq = by_read (read p (record f { local = l } ∷ fs) w q) refl
    where
      by_seen : (x : Value) → WellFormedValue Bs x → (o : Option Value) → seen_as h x ≡ o → Stays (if_there o w (λ v. Rattle.cil_semantics.specs.Frames.go_on p k f (pushed v l) fs w))
      by_seen x fine None e = tt
      by_seen x fine (Some v) e = pushes_on_valid f l v fs w top a (seen_fine Bs h x v fine e)

      by_read : (o : Option Value) → read p (record f { local = l } ∷ fs) w q ≡ o → Stays (if_there (option_and_then (seen_as h) o) w (λ v. Rattle.cil_semantics.specs.Frames.go_on p k f (pushed v l) fs w))
      by_read None e = tt
      by_read (Some x) e = by_seen x (read_fine Bs p (record f { local = l } ∷ fs) w q x (a.places.fine, frames_fine fs top.below.others) top.below.world e) (seen_as h x) refl

  pub stores_valid : (q : Pointer) (v : Value) (f : Frame) (l : Local) (fs : List Frame) (w : World) → Topmost p k ms g r f fs w → Leaves p k ms g r f l fs 0 → WellFormedPointer Bs q → WellFormedValue Bs v → Stays (store p k q v f l fs w)
  stores_valid q v f l fs w top a fq fv = by_write (write p (record f { local = l } ∷ fs) w q v) (λ x e. writes_keep Bs p (record f { local = l } ∷ fs) w q v x fq fv e)
    where
      goes : (gs : List Frame) (w2 : World) → ChangedFrames Bs (record f { local = l } ∷ fs) gs → WellFormedWorld Bs w2 → w2.depth ≡ w.depth → Stays (go_on_top p k gs w2)
      goes [] w2 c ok same = absurd c
      goes (h ∷ hs) w2 c ok same =
          let top1 = topmost_changed (record f { local = l }) h fs hs w w2 (relocal f l fs w top a.places a.same) c ok same in
          let height1 = height_changed p k ms g r (record f { local = l }) h (next_place f.at) 0 c.0 a.height in
          goes_on_valid h h.local hs w2 top1 (record { places = places_of p k ms g r h hs top1.frame top1.as_named; same = refl; height = subst (λ at. HasHeight p k ms g r h (next_place at) 0) (sym (ap (λ (z : Frame). z.at) (c.0).same)) height1 })

      by_write : (o : Option (List Frame × World)) → ((x : List Frame × World) → o ≡ Some x → Written Bs p (record f { local = l } ∷ fs) w x) → Stays (if_there o w (λ (x : List Frame × World). go_on_top p k x.0 x.1))
      by_write None h = tt
      by_write (Some x) h = let y = h x refl in goes x.0 x.1 y.frames (y.world top.below.world) y.depth

  pub copies_valid : (to from : Pointer) (h : Storage) (f : Frame) (l : Local) (fs : List Frame) (w : World) → Topmost p k ms g r f fs w → Leaves p k ms g r f l fs 0 → WellFormedPointer Bs to → WellFormedPointer Bs from → Stays (copy p k to from h f l fs w)
  copies_valid to from h f l fs w top a ft ff = by_read (read p (record f { local = l } ∷ fs) w from) refl
    where
      by_seen : (x : Value) → WellFormedValue Bs x → (o : Option Value) → seen_as h x ≡ o → Stays (if_there o w (λ v. store p k to v f l fs w))
      by_seen x fine None e = tt
      by_seen x fine (Some v) e = stores_valid to v f l fs w top a ft (seen_fine Bs h x v fine e)

      by_read : (o : Option Value) → read p (record f { local = l } ∷ fs) w from ≡ o → Stays (if_there (option_and_then (seen_as h) o) w (λ v. store p k to v f l fs w))
      by_read None e = tt
      by_read (Some x) e = by_seen x (read_fine Bs p (record f { local = l } ∷ fs) w from x (a.places.fine, frames_fine fs top.below.others) top.below.world e) (seen_as h x) refl

  pub uses_static_valid : (a : Access) (f : Frame) (l : Local) (fs : List Frame) (w : World) → Topmost p k ms g r f fs w → Leaves p k ms g r f l fs (access_count a) → WellFormedAccess Bs a → Stays (use_static p k a f l fs w)
  uses_static_valid (Read q) f l fs w top a fine = loads_valid q Anything f l fs w top a fine
  uses_static_valid (Write q v) f l fs w top a fine = stores_valid q v f l fs w top a fine.0 fine.1
  uses_static_valid (PointTo q) f l fs w top a fine = pushes_on_valid f l (Ptr q) fs w top a fine
