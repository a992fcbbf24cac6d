-- Values go down, delegates are entered, and groups end: references stay.
use Rattle.std.proofs.Common.{◌≡◌, ℕ, ◌+◌, Bool, true, false, List, [], ◌∷◌, ◌++◌, Option, Some, None, refl, sym, subst}
use Rattle.std.specs.Prelude.{if◌then◌else◌, option_map, option_and_then, reverse, is_some, not, ◌&&◌, slice_get, int_lt, pos, ◌+ℤ◌}
use Rattle.cil_model.specs.declared.ty.Ty.{Ty}
use Rattle.cil_model.specs.declared.value.Value.{Value, out-Value, Ptr, I4}
use Rattle.cil_model.specs.declared.value.Value.TheOpen.{Value-F}
use Rattle.cil_model.specs.declared.value.Pointer.TheVariants.{Inside}
use Rattle.cil_model.specs.declared.contract.Contracts.{Contracts}
use Rattle.cil_model.specs.declared.contract.Group.{Group}
use Rattle.cil_model.specs.declared.contract.Group.TheVariants as group
use Rattle.cil_model.specs.declared.program.Program.{Program}
use Rattle.il_opcodes.specs.declared.class.Storage.{Storage}
use Rattle.il_opcodes.specs.declared.class.Storage.TheVariants.{Truncated, Long, NativeInt, Reference, Address, Fields, Opaque, Anything, Void}
use Rattle.cil_semantics.proofs.FrameLaws.{reverse_cons}
use Rattle.cil_semantics.specs.Words.{maybe, same_bool}
use Rattle.cil_semantics.specs.Lookups.{method_of, type_of}
use Rattle.cil_semantics.specs.Places.{storage, stored_in, is_reference}
use Rattle.cil_semantics.specs.declared.state.Cell.{Cell}
use Rattle.cil_semantics.specs.declared.state.Object.{Object}
use Rattle.cil_semantics.specs.declared.state.World.{World}
use Rattle.cil_semantics.specs.declared.state.Frame.{Frame}
use Rattle.cil_semantics.specs.declared.state.ProgramPoint.{ProgramPoint}
use Rattle.cil_semantics.specs.declared.state.ProgramPoint.TheVariants.{LeadIn, InGroup, Rest}
use Rattle.cil_semantics.specs.declared.state.Remaining.{Remaining}
use Rattle.cil_semantics.specs.declared.state.Remaining.TheVariants.{Range, Elements}
use Rattle.cil_semantics.specs.declared.state.Continuation.{Continuation}
use Rattle.cil_semantics.specs.declared.state.Continuation.TheVariants.{Push, PushObject, PushStruct, ThrowObject, BeginCallee, UseField, TryNext}
use Rattle.cil_semantics.specs.State.{Next, lowered, pushed, object_at, with_local}
use Rattle.cil_semantics.specs.Acts.{flag, truth}
use Rattle.cil_semantics.specs.Contracted.{Plan}
use Rattle.cil_semantics.specs.Unwind.{plan_at, next_piece, ends_frame, unwind}
use Rattle.cil_semantics.specs.Frames.{stuck, if_there, enter, enter_function, enter_delegate, delegate_values, this_value, owner_type, gives_value, parts_of, is_nothing, next_try}
use Rattle.cil_semantics.specs.Returns.{push_below, last_cell, try_next, tried, return_with, return_to, begin_invariants, group_over, piece_over, kept_as, result_type, returned, return_from, returns}
use Rattle.splice_facts.specs.Exceptions.{ObjectIf}
use Rattle.object_validity.specs.Known.{KnownValue, KnownValues, KnownCells, KnownIf, KnownWorld, KnownContinuation, KnownFrame, KnownFrames, KeepsReferences}
use Rattle.object_validity.proofs.StoredLaws.{stored_fine, object_fine, cell_there}
use Rattle.object_validity.proofs.MoveLaws.{unwinds_known, group_known, piece_known, rest_known, ends_known, world_lowered}
use Rattle.object_validity.proofs.PlaceStepLaws.{there_known, either_known, pushed_known, goes_on, begins_known, uses_known, enters_known}

abbrev Keeps : Next → Type 0
Keeps x = KeepsReferences x

module _ (b : ℕ) where
  one_more_cell : (cs : List Cell) (c : Cell) → KnownCells b cs → KnownValue b c.value → KnownCells b (cs ++ c ∷ [])
  one_more_cell [] c h kc = (kc, tt)
  one_more_cell (x ∷ cs) c h kc = (h.0, one_more_cell cs c h.1 kc)

  reversed_cells : (cs : List Cell) → KnownCells b cs → KnownCells b (reverse cs)
  reversed_cells [] h = tt
  reversed_cells (c ∷ cs) h = subst (KnownCells b) (sym (reverse_cons c cs)) (one_more_cell (reverse cs) c (reversed_cells cs h.1) h.0)

  last_known : (cs : List Cell) → KnownCells b cs → KnownIf b (last_cell cs)
  last_known cs h = by_list (reverse cs) refl (reversed_cells cs h)
    where
      by_list : (ys : List Cell) → reverse cs ≡ ys → KnownCells b ys → KnownIf b (last_cell cs)
      by_list [] e known = rw e tt
      by_list (y ∷ rest) e known = rw e known.0

  pub this_known : (p : Program) (t : Ty) (v : Value) → KnownValue b v → KnownValue b (this_value p t (out-Value v) v)
  this_known p t v kv = by_value (out-Value v)
    where
      either : (c : Bool) (x : ℕ) → KnownValue b (if c then v else Ptr (Inside x (0 ∷ [])))
      either true x = kv
      either false x = tt

      by_value : (o : Value-F Value) → KnownValue b (this_value p t o v)
      by_value (Value-F.Obj x) = either (is_reference (storage p t)) x
      by_value _ = kv

  parts_known : (cs : List Cell) (d : Value × Value) → KnownCells b cs → parts_of cs ≡ Some d → KnownValue b d.0
  parts_known [] d h e = absurd (cc e)
  parts_known (t ∷ []) d h e = absurd (cc e)
  parts_known (t ∷ f ∷ cs) d h e = let z : (t.value, f.value) ≡ d = cc e in subst (λ (y : Value × Value). KnownValue b y.0) z h.0

  given_known : (p : Program) (owner : Ty) (m : ℕ) (target : Value) (values : List Value) → KnownValue b target → KnownValues b values → KnownValues b (delegate_values p owner m target values)
  given_known p owner m target values kt kv = by_static (method_of p m).is_static (is_nothing (out-Value target))
    where
      by_static : (s t : Bool) → KnownValues b (if s then (if t then values else target ∷ values) else this_value p owner (out-Value target) target ∷ values)
      by_static true true = kv
      by_static true false = (kt, kv)
      by_static false t = (this_known p owner target kt, kv)

-- what ForAll and Exists try next
abbrev NextKnown : ℕ → Option (Value × Remaining) → Type 0
NextKnown b None = Unit {0}
NextKnown b (Some x) = KnownValue b x.0

pub next_known : (b : ℕ) (w : World) (left : Remaining) → KnownWorld b w → NextKnown b (next_try w left)
next_known b w (Range from to) kw = by_order (int_lt from to)
  where
    by_order : (c : Bool) → NextKnown b (if c then Some (I4 from, Range (from +ℤ pos 1) to) else None)
    by_order true = tt
    by_order false = tt
next_known b w (Elements x i) kw = by_object (object_at w x) refl
  where
    by_cell : (cs : List Cell) → KnownCells b cs → (o : Option Cell) → slice_get cs i ≡ o → NextKnown b (option_map (λ (c : Cell). (c.value, Elements x (i + 1))) o)
    by_cell cs kc None e = tt
    by_cell cs kc (Some c) e = cell_there b cs i c kc e

    by_object : (o : Option Object) → object_at w x ≡ o → NextKnown b (option_map (λ (c : Cell). (c.value, Elements x (i + 1))) (option_and_then (λ (y : Object). slice_get y.cells i) o))
    by_object None e = tt
    by_object (Some y) e = by_cell y.cells (object_fine b w x y kw.heap e) (slice_get y.cells i) refl

module _ (p : Program) (k : Contracts) where
  pub enters_function : (b : ℕ) (gives : Bool) (v : Value-F Value) (target : Value) (values : List Value) (back : Continuation) (fs : List Frame) (w : World) → KnownValue b target → KnownValues b values → KnownContinuation b back → KnownFrames b fs → KnownWorld b w → Keeps (enter_function p k gives v target values back fs w)
  enters_function b gives (Value-F.Func m u) target values back fs w kt kv kb ks kw =
      either_known (is_some (method_of p m).body && (not (type_of p (method_of p m).owner).reference && same_bool gives (gives_value p (owner_type p m u.type_args) m u.method_args)))
      (enter p k (owner_type p m u.type_args) m u.method_args (delegate_values p (owner_type p m u.type_args) m target values) back fs w) (stuck w)
      (enters_known p k b (owner_type p m u.type_args) m u.method_args (delegate_values p (owner_type p m u.type_args) m target values) back fs w (given_known b p (owner_type p m u.type_args) m target values kt kv) kb ks kw) tt
  enters_function b gives _ target values back fs w kt kv kb ks kw = tt

  pub enters_delegate : (b : ℕ) (gives : Bool) (v : Value-F Value) (values : List Value) (back : Continuation) (fs : List Frame) (w : World) → KnownValues b values → KnownContinuation b back → KnownFrames b fs → KnownWorld b w → Keeps (enter_delegate p k gives v values back fs w)
  enters_delegate b gives (Value-F.Obj x) values back fs w kv kb ks kw = by_object (object_at w x) refl
    where
      by_object : (o : Option Object) → object_at w x ≡ o → Keeps (if_there (option_and_then (λ (y : Object). parts_of y.cells) o) w (λ (d : Value × Value). enter_function p k gives (out-Value d.1) d.0 values back fs w))
      by_object None e = tt
      by_object (Some y) e =
          there_known (parts_of y.cells) w (λ (d : Value × Value). enter_function p k gives (out-Value d.1) d.0 values back fs w)
          (λ d q. enters_function b gives (out-Value d.1) d.0 values back fs w (parts_known b y.cells d (object_fine b w x y kw.heap e) q) kv kb ks kw)
  enters_delegate b gives _ values back fs w kv kb ks kw = tt

  -- ---- values that go down

  pub pushes_known : (b : ℕ) (v : Option Value) (fs : List Frame) (w : World) → KnownIf b v → KnownFrames b fs → KnownWorld b w → Keeps (push_below p k v fs w)
  pushes_known b v [] w kv ks kw = tt
  pushes_known b None (f ∷ fs) w kv ks kw = goes_on p k b f f.local fs w (ks.0).local ks.0 ks.1 kw
  pushes_known b (Some v) (f ∷ fs) w kv ks kw = goes_on p k b f (pushed v f.local) fs w (pushed_known b v f.local kv (ks.0).local) ks.0 ks.1 kw

  pub tries_known : (b : ℕ) (exists : Bool) (target : Value) (o : Option (Value × Remaining)) (fs : List Frame) (w : World) → NextKnown b o → KnownValue b target → KnownFrames b fs → KnownWorld b w → Keeps (try_next p k exists target o fs w)
  tries_known b exists target None fs w kn kt ks kw = pushes_known b (Some (flag (not exists))) fs w tt ks kw
  tries_known b exists target (Some x) fs w kn kt ks kw = enters_delegate b true (out-Value target) (x.0 ∷ []) (TryNext exists target x.1) fs w (kn, tt) kt ks kw

  answers_known : (b : ℕ) (exists : Bool) (target : Value) (left : Remaining) (o : Option Bool) (fs : List Frame) (w : World) → KnownValue b target → KnownFrames b fs → KnownWorld b w → Keeps (tried p k exists target left o fs w)
  answers_known b exists target left None fs w kt ks kw = tt
  answers_known b exists target left (Some c) fs w kt ks kw =
      either_known (same_bool exists c) (push_below p k (Some (flag exists)) fs w) (try_next p k exists target (next_try w left) fs w) (pushes_known b (Some (flag exists)) fs w tt ks kw)
      (tries_known b exists target (next_try w left) fs w (next_known b w left kw) kt ks kw)

  returns_with : (b : ℕ) (back : Continuation) (args : List Cell) (v : Option Value) (fs : List Frame) (w : World) → KnownContinuation b back → KnownCells b args → KnownIf b v → KnownFrames b fs → KnownWorld b w → Keeps (return_with p k back args v fs w)
  returns_with b Push args v fs w kb ka kv ks kw = pushes_known b v fs w kv ks kw
  returns_with b (PushObject x) args v fs w kb ka kv ks kw = pushes_known b (Some x) fs w kb ks kw
  returns_with b PushStruct args v fs w kb ka kv ks kw = pushes_known b (last_cell args) fs w (last_known b args ka) ks kw
  returns_with b (ThrowObject x) args v fs w kb ka kv ks kw = unwinds_known p k fs b false w x ks kw kb
  returns_with b BeginCallee args v [] w kb ka kv ks kw = tt
  returns_with b BeginCallee args v (f ∷ fs) w kb ka kv ks kw = begins_known p k b f fs w ks.0 ks.1 kw
  returns_with b (UseField a) args v [] w kb ka kv ks kw = tt
  returns_with b (UseField a) args v (f ∷ fs) w kb ka kv ks kw = uses_known p k b a f f.local fs w kb (ks.0).local ks.0 ks.1 kw
  returns_with b (TryNext exists target left) args v fs w kb ka kv ks kw = answers_known b exists target left (option_and_then truth v) fs w kb ks kw

  returns_to : (b : ℕ) (f : Frame) (fs : List Frame) (w : World) → KnownFrame b f → KnownFrames b fs → KnownWorld b w → Keeps (return_to p k f fs w)
  unfolding return_to
  returns_to b f fs w kf ks kw = returns_with b f.continuation f.local.args f.local.result fs w kf.back (kf.local).args (kf.local).result ks kw

  -- ---- groups that end

  invariants_known : (b : ℕ) (c : Plan) (f : Frame) (fs : List Frame) (w : World) → KnownFrame b f → KnownFrames b fs → KnownWorld b w → Keeps (begin_invariants p k c f fs w)
  invariants_known b c f fs w kf ks kw = group_known p b c group.Invariant f fs w (return_to p k f fs w) kf ks kw (returns_to b f fs w kf ks kw)

  group_ends : (b : ℕ) (c : Plan) (gr : Group) (f : Frame) (fs : List Frame) (w : World) → KnownFrame b f → KnownFrames b fs → KnownWorld b w → Keeps (group_over p k c gr f fs w)
  group_ends b c group.Entry f fs w kf ks kw = rest_known p b c f fs w kf ks kw
  group_ends b c group.Exit f fs w kf ks kw = invariants_known b c f fs w kf ks kw
  group_ends b c group.Invariant f fs w kf ks kw = returns_to b f fs w kf ks kw
  group_ends b c group.Inline f fs w kf ks kw = tt
  group_ends b c group.Throw f fs w kf ks kw = by_thrown f.thrown kf.thrown
    where
      by_thrown : (o : Option ℕ) → ObjectIf b o → Keeps (maybe (stuck w) (λ x. ends_frame p f.initializes f.continuation w x (λ skip v y. unwind p k skip fs v y)) o)
      by_thrown None there = tt
      by_thrown (Some x) there = ends_known p k b f.initializes f.continuation fs w x (λ b2 s v y. unwinds_known p k fs b2 s v y) ks kw there

  pub piece_ends : (b : ℕ) (c : Plan) (gr : Group) (i : ℕ) (f : Frame) (fs : List Frame) (w : World) → KnownFrame b f → KnownFrames b fs → KnownWorld b w → Keeps (piece_over p k c gr i f fs w)
  piece_ends b c gr i f fs w kf ks kw = piece_known p b gr (next_piece p c gr (i + 1) f fs w) f fs w (group_over p k c gr f fs (lowered w)) kf ks kw (group_ends b c gr f fs (lowered w) kf ks (world_lowered b w kw))

  -- ---- ret

  abbrev KeptIf : ℕ → Option (Option Value) → Type 0
  KeptIf b None = Unit {0}
  KeptIf b (Some v) = KnownIf b v

  kept_value : (b : ℕ) (t : Ty) (v : Value) → KnownValue b v → KeptIf b (option_map Some (stored_in p t v))
  kept_value b t v kv = by_stored (stored_in p t v) refl
    where
      by_stored : (o : Option Value) → stored_in p t v ≡ o → KeptIf b (option_map Some o)
      by_stored None e = tt
      by_stored (Some x) e = stored_fine b p 1001 t v x kv e

  kept_known : (b : ℕ) (t : Ty) (h : Storage) (s : List Value) → KnownValues b s → KeptIf b (kept_as p t h s)
  kept_known b t Void s ks = tt
  kept_known b t (Truncated n c) [] ks = tt
  kept_known b t Long [] ks = tt
  kept_known b t NativeInt [] ks = tt
  kept_known b t Reference [] ks = tt
  kept_known b t Address [] ks = tt
  kept_known b t (Fields n) [] ks = tt
  kept_known b t Opaque [] ks = tt
  kept_known b t Anything [] ks = tt
  kept_known b t (Truncated n c) (v ∷ s) ks = kept_value b t v ks.0
  kept_known b t Long (v ∷ s) ks = kept_value b t v ks.0
  kept_known b t NativeInt (v ∷ s) ks = kept_value b t v ks.0
  kept_known b t Reference (v ∷ s) ks = kept_value b t v ks.0
  kept_known b t Address (v ∷ s) ks = kept_value b t v ks.0
  kept_known b t (Fields n) (v ∷ s) ks = kept_value b t v ks.0
  kept_known b t Opaque (v ∷ s) ks = kept_value b t v ks.0
  kept_known b t Anything (v ∷ s) ks = kept_value b t v ks.0

  returns_from : (b : ℕ) (o : Option Plan) (at : ProgramPoint) (f : Frame) (fs : List Frame) (w : World) → KnownFrame b f → KnownFrames b fs → KnownWorld b w → Keeps (return_from p k o at f fs w)
  returns_from b None at f fs w kf ks kw = returns_to b f fs w kf ks kw
  returns_from b (Some c) (LeadIn q) f fs w kf ks kw = returns_to b f fs w kf ks kw
  returns_from b (Some c) (InGroup gr i q) f fs w kf ks kw = tt
  returns_from b (Some c) (Rest q) f fs w kf ks kw = group_known p b c group.Exit f fs w (begin_invariants p k c f fs w) kf ks kw (invariants_known b c f fs w kf ks kw)

  pub returns_known : (b : ℕ) (f : Frame) (fs : List Frame) (w : World) → KnownFrame b f → KnownFrames b fs → KnownWorld b w → Keeps (returns p k f fs w)
  returns_known b f fs w kf ks kw = by_kept (returned p f f.local.stack) (kept_known b (result_type p f) (storage p (result_type p f)) f.local.stack (kf.local).stack)
    where
      by_kept : (o : Option (Option Value)) → KeptIf b o → Keeps (if_there o w (λ v. return_from p k (plan_at k p f.method) f.at (with_local (record f.local { result = v }) f) fs w))
      by_kept None h = tt
      by_kept (Some v) h = returns_from b (plan_at k p f.method) f.at (with_local (record f.local { result = v }) f) fs w (record { local = record { args = (kf.local).args; locals = (kf.local).locals; captured = (kf.local).captured; result = h; stack = (kf.local).stack }; handling = kf.handling; thrown = kf.thrown; back = kf.back }) ks kw

pub returning_known : Rattle.object_validity.specs.Steps.ReturnsKnown
returning_known p k b f fs w = returns_known p k b f fs w
