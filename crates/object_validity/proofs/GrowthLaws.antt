-- What refers to objects that are there does so while the heap grows; and lists of such values, in part or turned round.
use Rattle.std.proofs.Common.{ℕ, zero, suc, List, [], ◌∷◌, ◌++◌, Option, Some, None, sym, subst, arith}
use Rattle.std.specs.Prelude.{take, drop, reverse}
use Rattle.cil_model.specs.declared.program.Program.{Program}
use Rattle.cil_model.specs.declared.value.Value.{Value, Obj, Row_of-Value, end_of-Value, more_of-Value}
use Rattle.cil_model.specs.declared.value.Value as val
use Rattle.cil_semantics.specs.declared.state.Cell.{Cell}
use Rattle.cil_semantics.specs.declared.state.Local.{Local}
use Rattle.cil_semantics.specs.declared.state.Object.{Object}
use Rattle.cil_semantics.specs.declared.state.Statics.{Statics}
use Rattle.cil_semantics.specs.declared.state.World.{World}
use Rattle.cil_semantics.specs.declared.state.Frame.{Frame}
use Rattle.cil_semantics.specs.declared.state.Handling.{Handling}
use Rattle.cil_semantics.specs.declared.state.Cause.{Cause}
use Rattle.cil_semantics.specs.declared.state.Cause.TheVariants.{Caught, Unwinding, Leaving}
use Rattle.cil_semantics.specs.declared.state.Continuation.{Continuation}
use Rattle.cil_semantics.specs.declared.state.Continuation.TheVariants.{Push, PushObject, PushStruct, ThrowObject, BeginCallee, UseField, TryNext}
use Rattle.cil_semantics.specs.declared.state.Access.{Access}
use Rattle.cil_semantics.specs.declared.state.Access.TheVariants.{Read, Write, PointTo}
use Rattle.cil_semantics.specs.State.{next_object, with_object}
use Rattle.cil_semantics.proofs.FrameLaws.{reverse_cons}
use Rattle.splice_facts.specs.Exceptions.{IsObject, ObjectIf, CauseThere, CausesThere}
use Rattle.splice_facts.proofs.ExceptionLaws.{more_object, more_failure, one_longer}
use Rattle.object_validity.specs.Known.{KnownValue, AllKnown, KnownValues, KnownCells, KnownIf, KnownLocal, KnownObjects, KnownStatics, KnownWorld, KnownAccess, KnownContinuation, KnownFrame, KnownFrames}

one_more : (b x : ℕ) → IsObject b x → IsObject (suc b) x
one_more b x h = more_object b (suc b) x (omega arith) h

module _ (b : ℕ) where
  mutual
    pub grown_value : (v : Value) → KnownValue b v → KnownValue (suc b) v
    grown_value (val.I4 z) h = tt
    grown_value (val.I8 z) h = tt
    grown_value (val.Native z) h = tt
    grown_value val.Null h = tt
    grown_value (val.Obj k) h = one_more b k h
    grown_value (val.Text units) h = tt
    grown_value (val.Ptr q) h = tt
    grown_value (val.Struct' shape parts) h = all_grown parts h
    grown_value (val.Func m u) h = tt
    grown_value (val.Opaque bytes) h = tt

    all_grown : {m : _} (row : Row_of-Value m) → AllKnown b row → AllKnown (suc b) row
    all_grown end_of-Value h = tt
    all_grown (more_of-Value v rest) h = (grown_value v h.0, all_grown rest h.1)

  pub grown_values : (vs : List Value) → KnownValues b vs → KnownValues (suc b) vs
  grown_values [] h = tt
  grown_values (v ∷ vs) h = (grown_value v h.0, grown_values vs h.1)

  pub grown_cells : (cs : List Cell) → KnownCells b cs → KnownCells (suc b) cs
  grown_cells [] h = tt
  grown_cells (c ∷ cs) h = (grown_value c.value h.0, grown_cells cs h.1)

  pub grown_if : (o : Option Value) → KnownIf b o → KnownIf (suc b) o
  grown_if None h = tt
  grown_if (Some v) h = grown_value v h

  pub grown_local : (l : Local) → KnownLocal b l → KnownLocal (suc b) l
  grown_local l h = record { args = grown_cells l.args h.args; locals = grown_cells l.locals h.locals; captured = grown_cells l.captured h.captured; result = grown_if l.result h.result; stack = grown_values l.stack h.stack }

  grown_objects : (os : List Object) → KnownObjects b os → KnownObjects (suc b) os
  grown_objects [] h = tt
  grown_objects (o ∷ os) h = (grown_cells o.cells h.0, grown_objects os h.1)

  grown_statics : (ss : List Statics) → KnownStatics b ss → KnownStatics (suc b) ss
  grown_statics [] h = tt
  grown_statics (s ∷ ss) h = (more_failure b (suc b) s.init (omega arith) h.0, grown_cells s.cells h.1, grown_statics ss h.2)

  pub grown_access : (a : Access) → KnownAccess b a → KnownAccess (suc b) a
  grown_access (Read q) h = tt
  grown_access (Write q v) h = grown_value v h
  grown_access (PointTo q) h = tt

  pub grown_back : (c : Continuation) → KnownContinuation b c → KnownContinuation (suc b) c
  grown_back Push h = tt
  grown_back (PushObject v) h = grown_value v h
  grown_back PushStruct h = tt
  grown_back (ThrowObject x) h = one_more b x h
  grown_back BeginCallee h = tt
  grown_back (UseField a) h = grown_access a h
  grown_back (TryNext exists target left) h = grown_value target h

  grown_cause : (c : Cause) → CauseThere b c → CauseThere (suc b) c
  grown_cause (Caught x) h = one_more b x h
  grown_cause (Unwinding x) h = one_more b x h
  grown_cause (Leaving t) h = tt

  pub grown_causes : (hs : List Handling) → CausesThere b hs → CausesThere (suc b) hs
  grown_causes [] h = tt
  grown_causes (x ∷ hs) h = (grown_cause x.cause h.0, grown_causes hs h.1)

  grown_thrown : (o : Option ℕ) → ObjectIf b o → ObjectIf (suc b) o
  grown_thrown None h = tt
  grown_thrown (Some x) h = one_more b x h

  pub grown_frame : (f : Frame) → KnownFrame b f → KnownFrame (suc b) f
  grown_frame f h = record { local = grown_local f.local h.local; handling = grown_causes f.handling h.handling; thrown = grown_thrown f.thrown h.thrown; back = grown_back f.continuation h.back }

  pub grown_frames : (fs : List Frame) → KnownFrames b fs → KnownFrames (suc b) fs
  grown_frames [] h = tt
  grown_frames (f ∷ fs) h = (grown_frame f h.0, grown_frames fs h.1)

  -- ---- one more object

  one_more_object : (os : List Object) (o : Object) → KnownObjects b os → KnownCells b o.cells → KnownObjects b (os ++ o ∷ [])
  one_more_object [] o h c = (c, tt)
  one_more_object (x ∷ xs) o h c = (h.0, one_more_object xs o h.1 c)

  pub new_known : (w : World) → KnownWorld b w → IsObject (suc b) (next_object w)
  new_known w h = let e = h.count in (omega arith, omega (arith, e))

module _ (b : ℕ) where
  -- its cells may refer to itself
  pub object_added : (p : Program) (o : Object) (w : World) → KnownCells (suc b) o.cells → KnownWorld b w → KnownWorld (suc b) (with_object p o w)
  object_added p o w c h =
      record {
        count = let e = one_longer w.heap o in let q = h.count in omega (arith, e, q);
        heap = one_more_object (suc b) w.heap o (grown_objects b w.heap h.heap) c;
        statics = grown_statics b w.statics h.statics;
      }

  -- ---- stacks

  pub restacked : (l : Local) (s : List Value) → KnownLocal b l → KnownValues b s → KnownLocal b (record l { stack = s })
  restacked l s h k = record { args = h.args; locals = h.locals; captured = h.captured; result = h.result; stack = k }

module _ (b : ℕ) where
  -- the reference to an object that is made lies on the rest
  pub pushed_new : (w : World) (l : Local) (rest : List Value) → KnownWorld b w → KnownLocal b l → KnownValues b rest → KnownLocal (suc b) (record l { stack = Obj (next_object w) ∷ rest })
  pushed_new w l rest world known h = restacked (suc b) l (Obj (next_object w) ∷ rest) (grown_local b l known) (new_known b w world, grown_values b rest h)

  pub taken_known : (n : ℕ) (vs : List Value) → KnownValues b vs → KnownValues b (take n vs)
  taken_known zero vs h = tt
  taken_known (suc n) [] h = tt
  taken_known (suc n) (v ∷ vs) h = (h.0, taken_known n vs h.1)

  pub left_known : (n : ℕ) (vs : List Value) → KnownValues b vs → KnownValues b (drop n vs)
  left_known zero vs h = h
  left_known (suc n) [] h = tt
  left_known (suc n) (v ∷ vs) h = left_known n vs h.1

  joined_known : (vs ws : List Value) → KnownValues b vs → KnownValues b ws → KnownValues b (vs ++ ws)
  joined_known [] ws h k = k
  joined_known (v ∷ vs) ws h k = (h.0, joined_known vs ws h.1 k)

  pub reversed_known : (vs : List Value) → KnownValues b vs → KnownValues b (reverse vs)
  reversed_known [] h = tt
  reversed_known (v ∷ vs) h = subst (KnownValues b) (sym (reverse_cons v vs)) (joined_known (reverse vs) (v ∷ []) (reversed_known vs h.1) (h.0, tt))
