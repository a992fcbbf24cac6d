-- New objects, structs, delegates and objects of types outside: references stay, whatever is done with the new one.
use Rattle.std.proofs.Common.{◌≡◌, ℕ, suc, Bool, true, false, List, [], ◌∷◌, Option, Some, None, refl}
use Rattle.std.specs.Prelude.{if◌then◌else◌, map, is_some}
use Rattle.cil_model.specs.declared.ty.Ty.{Ty, out-Ty}
use Rattle.cil_model.specs.declared.value.Value.{Value, Obj, Text}
use Rattle.cil_model.specs.declared.run.Reply.{Reply}
use Rattle.cil_model.specs.declared.run.ReplyResult.{ReplyResult}
use Rattle.cil_model.specs.declared.run.ReplyResult.TheVariants as reply
use Rattle.cil_model.specs.declared.contract.Contracts.{Contracts}
use Rattle.cil_model.specs.declared.program.Program.{Program}
use Rattle.cil_semantics.specs.Words.{maybe}
use Rattle.cil_semantics.specs.Lookups.{method_of}
use Rattle.cil_semantics.specs.Places.{storage, is_reference, layout, default_cells, default_value}
use Rattle.cil_semantics.specs.declared.state.Cell.{Cell}
use Rattle.cil_semantics.specs.declared.state.Object.{Object}
use Rattle.cil_semantics.specs.declared.state.World.{World}
use Rattle.cil_semantics.specs.declared.state.Frame.{Frame}
use Rattle.cil_semantics.specs.State.{Next, with_object, next_object}
use Rattle.cil_semantics.specs.Frames.{stuck, enter, enter_struct, stored_args}
use Rattle.cil_semantics.specs.Outside.{is_outside, is_string, Member, Answer, Returned, Threw, Unfit, by_ref_args, stored_back, next_reply, recorded, unfit, thrown_out, Made, MadeValue, MadeObject, made, with_made, new_result, making, ask_new, member_of}
use Rattle.cil_semantics.specs.Calls.{CoreMember, Constructor, Equality, Concatenation, TextLength, IsNullOrEmpty, Quantifier, NotCore, core_of, Use, pushes_new, use_answer, makes_delegate, delegate_cells, new_object, make_core, make_own, without_this, make_outside, make}
use Rattle.splice_facts.specs.Exceptions.{IsObject}
use Rattle.object_validity.specs.Known.{KnownValue, KnownValues, KnownCells, KnownIf, KnownWorld, KnownContinuation, KnownFrames, KeepsReferences}
use Rattle.object_validity.specs.Steps.{AnswerKnown}
use Rattle.object_validity.proofs.StoredLaws.{default_fine, defaults_fine}
use Rattle.object_validity.proofs.GrowthLaws.{grown_values, grown_cells, grown_frames, object_added, new_known}
use Rattle.object_validity.proofs.MoveLaws.{unwinds_known}
use Rattle.object_validity.proofs.PlaceStepLaws.{either_known, enters_known, enters_struct}
use Rattle.object_validity.proofs.ReturnLaws.{pushes_known}
use Rattle.object_validity.proofs.WriteLaws.{Left}
use Rattle.object_validity.proofs.OutsideLaws.{stores_back, throws_out, told, values_of}

abbrev Keeps : Next → Type 0
Keeps x = KeepsReferences x

-- what is done with a new one, at once or behind its constructor
pub record UseKnown (u : Use) : Type 0 where
  pub at_once : (b : ℕ) (v : Value) (fs : List Frame) (w : World) → KnownValue b v → KnownFrames b fs → KnownWorld b w → Keeps (u.now v fs w)
  pub waits : (b : ℕ) (v : Value) → KnownValue b v → KnownContinuation b (u.later v)

-- What refers to so many objects refers to so many others, too.
abbrev pub Grows : ℕ → ℕ → Type 0
Grows b c = (fs : List Frame) → KnownFrames b fs → KnownFrames c fs

-- what a call outside for a new one came to, with one object more or none
abbrev pub NewAnswered : ℕ → Answer → Type 0
NewAnswered b (Returned v fs w) = (c : ℕ) × (KnownIf c v × KnownFrames c fs × KnownWorld c w × Grows b c)
NewAnswered b (Threw x fs w) = (c : ℕ) × (IsObject c x × KnownFrames c fs × KnownWorld c w × Grows b c)
NewAnswered b (Unfit w) = Unit {0}

answered_so : (b : ℕ) (a : Answer) → AnswerKnown b a → NewAnswered b a
answered_so b (Returned v fs w) h = (b, (h.0, h.1, h.2, λ gs ks. ks))
answered_so b (Threw x fs w) h = (suc b, (h.0, h.1, h.2, λ gs ks. grown_frames b gs ks))
answered_so b (Unfit w) h = tt

-- a new value, or an object that is one more
abbrev MadeKnown : ℕ → Made → Type 0
MadeKnown b (MadeValue v) = KnownValue b v
MadeKnown b (MadeObject o) = KnownCells (suc b) o.cells

-- the new one, with the frames and the world
abbrev NewThere : ℕ → List Frame → Value × World → Type 0
NewThere b fs x = (c : ℕ) × (KnownValue c x.0 × KnownFrames c fs × KnownWorld c x.1 × Grows b c)

module _ (p : Program) where
  made_known : (b : ℕ) (t : Ty) → MadeKnown b (made p t)
  unfolding made
  made_known b t = by_kinds (is_string (out-Ty t)) (is_reference (storage p t))
    where
      by_kinds : (s r : Bool) → MadeKnown b (if s then MadeValue (Text []) else if r then MadeObject (record { ty = t; cells = default_cells p (map (λ (x : ℕ × Ty). x.1) (layout p t)) }) else MadeValue (default_value p t))
      by_kinds true r = tt
      by_kinds false true = defaults_fine (suc b) p (map (λ (x : ℕ × Ty). x.1) (layout p t))
      by_kinds false false = default_fine b p 1001 t

  new_there : (b : ℕ) (x : Made) (fs : List Frame) (w : World) → MadeKnown b x → KnownFrames b fs → KnownWorld b w → NewThere b fs (with_made p x w)
  new_there b (MadeValue v) fs w km ks kw = (b, (km, ks, kw, λ gs h. h))
  new_there b (MadeObject o) fs w km ks kw = (suc b, (new_known b w kw, grown_frames b fs ks, object_added b p o w km kw, λ gs h. grown_frames b gs h))

  new_results : (b : ℕ) (t : Ty) (m : Member) (values : List Value) (res : ReplyResult) (back : List Value) (fs : List Frame) (w v : World) (r : Reply) → KnownFrames b fs → KnownWorld b w → NewAnswered b (new_result p t m values res back fs w (unfit m values r v))
  new_results b t m values reply.Default back fs w v r ks kw =
      let x : Value × World = with_made p (made p t) w in
      let there : NewThere b fs x = new_there b (made p t) fs w (made_known b t) ks kw in
      (there.0, (there.1.0, there.1.1, told p there.0 m values (reply.Given x.0) back x.1 there.1.2, there.1.3))
  new_results b t m values reply.Void back fs w v r ks kw =
      let x : Value × World = with_made p (made p t) w in
      let there : NewThere b fs x = new_there b (made p t) fs w (made_known b t) ks kw in
      (there.0, (there.1.0, there.1.1, told p there.0 m values reply.Void back x.1 there.1.2, there.1.3))
  new_results b t m values (reply.Given x) back fs w v r ks kw = tt
  new_results b t m values (reply.Throw name) back fs w v r ks kw =
      answered_so b (thrown_out p name fs (recorded m values (reply.Throw name) back w) (unfit m values r v)) (throws_out p b name fs (recorded m values (reply.Throw name) back w) (unfit m values r v) ks (told p b m values (reply.Throw name) back w kw) tt)

  pub asks_new : (b : ℕ) (t : Ty) (m : Member) (values : List Value) (fs : List Frame) (w : World) → KnownFrames b fs → KnownWorld b w → NewAnswered b (ask_new p t m values fs w)
  unfolding ask_new
  asks_new b t m values fs w ks kw = by_cells (stored_args p m.params values)
    where
      by_back : (vs : List Value) (o : Option (List Frame × World)) → stored_back p (by_ref_args m.params vs) (next_reply w.replies).by_ref fs w ≡ o → NewAnswered b (making p t m vs (next_reply w.replies) w o)
      by_back vs None e = tt
      by_back vs (Some x) e =
          let left : Left b p x = stores_back p b (by_ref_args m.params vs) (next_reply w.replies).by_ref fs w x ks kw e in
          new_results b t m vs (next_reply w.replies).result (next_reply w.replies).by_ref x.0 x.1 w (next_reply w.replies) left.frames left.world

      by_cells : (o : Option (List Cell)) → NewAnswered b (maybe (Unfit w) (λ (cells : List Cell). making p t m (values_of cells) (next_reply w.replies) w (stored_back p (by_ref_args m.params (values_of cells)) (next_reply w.replies).by_ref fs w)) o)
      by_cells None = tt
      by_cells (Some cells) = by_back (values_of cells) (stored_back p (by_ref_args m.params (values_of cells)) (next_reply w.replies).by_ref fs w) refl

delegate_known : (b : ℕ) (vs : List Value) → KnownValues b vs → KnownCells b (delegate_cells vs)
delegate_known b [] h = tt
delegate_known b (v ∷ vs) h = (h.0, delegate_known b vs h.1)

module _ (p : Program) (k : Contracts) (u : Use) (h : UseKnown u) where
  used_known : (b : ℕ) (a : Answer) → NewAnswered b a → Keeps (use_answer p k u a)
  used_known b (Returned None fs w) ka = tt
  used_known b (Returned (Some v) fs w) ka = h.at_once ka.0 v fs w ka.1.0 ka.1.1 ka.1.2
  used_known b (Threw x fs w) ka = unwinds_known p k fs ka.0 false w x ka.1.1 ka.1.2 ka.1.0
  used_known b (Unfit w) ka = tt

  -- an object is made, and used at once
  now_known : (b : ℕ) (t : Ty) (cells : List Cell) (fs : List Frame) (w : World) → KnownCells b cells → KnownFrames b fs → KnownWorld b w → Keeps (u.now (Obj (next_object w)) fs (with_object p (new_object t cells) w))
  now_known b t cells fs w kc ks kw = h.at_once (suc b) (Obj (next_object w)) fs (with_object p (new_object t cells) w) (new_known b w kw) (grown_frames b fs ks) (object_added b p (new_object t cells) w (grown_cells b cells kc) kw)

  makes_core : (b : ℕ) (c : CoreMember) (t : Ty) (fs : List Frame) (w : World) (other : Next) → KnownFrames b fs → KnownWorld b w → Keeps other → Keeps (make_core p k u c t fs w other)
  makes_core b Constructor t fs w other ks kw o = now_known b t [] fs w tt ks kw
  makes_core b (Equality wanted) t fs w other ks kw o = o
  makes_core b Concatenation t fs w other ks kw o = o
  makes_core b TextLength t fs w other ks kw o = o
  makes_core b IsNullOrEmpty t fs w other ks kw o = o
  makes_core b (Quantifier exists) t fs w other ks kw o = o
  makes_core b NotCore t fs w other ks kw o = o

  makes_own : (b : ℕ) (t : Ty) (m : ℕ) (values : List Value) (fs : List Frame) (w : World) → KnownValues b values → KnownFrames b fs → KnownWorld b w → Keeps (make_own p k u t m values fs w)
  makes_own b t m values fs w kv ks kw =
      let o : Object = new_object t (default_cells p (map (λ (x : ℕ × Ty). x.1) (layout p t))) in
      either_known (is_reference (storage p t)) (enter p k t m [] (Obj (next_object w) ∷ values) (u.later (Obj (next_object w))) fs (with_object p o w)) (enter_struct p k t m [] values fs w)
      (enters_known p k (suc b) t m [] (Obj (next_object w) ∷ values) (u.later (Obj (next_object w))) fs (with_object p o w) (new_known b w kw, grown_values b values kv) (h.waits (suc b) (Obj (next_object w)) (new_known b w kw)) (grown_frames b fs ks)
      (object_added b p o w (defaults_fine (suc b) p (map (λ (x : ℕ × Ty). x.1) (layout p t))) kw))
      (enters_struct p k b t m [] values fs w kv ks kw)

  makes_outside : (b : ℕ) (t : Ty) (m : ℕ) (values : List Value) (fs : List Frame) (w : World) → KnownFrames b fs → KnownWorld b w → Keeps (make_outside p k u t m values fs w)
  makes_outside b t m values fs w ks kw =
      let member : Member = member_of p t m [] in
      let taken : Member = record member { params = without_this member.params } in
      used_known b (ask_new p t taken values fs w) (asks_new p b t taken values fs w ks kw)

  pub makes_known : (b : ℕ) (t : Ty) (m : ℕ) (values : List Value) (fs : List Frame) (w : World) → KnownValues b values → KnownFrames b fs → KnownWorld b w → Keeps (make p k u t m values fs w)
  unfolding make
  makes_known b t m values fs w kv ks kw =
      let own : Next = if is_some (method_of p m).body then make_own p k u t m values fs w else stuck w in
      let other : Next = if is_outside p m then make_outside p k u t m values fs w else own in
      either_known (makes_delegate p t m values) (u.now (Obj (next_object w)) fs (with_object p (new_object t (delegate_cells values)) w)) (make_core p k u (core_of p t m) t fs w other) (now_known b t (delegate_cells values) fs w (delegate_known b values kv) ks kw)
      (makes_core b (core_of p t m) t fs w other ks kw
      (either_known (is_outside p m) (make_outside p k u t m values fs w) own (makes_outside b t m values fs w ks kw) (either_known (is_some (method_of p m).body) (make_own p k u t m values fs w) (stuck w) (makes_own b t m values fs w kv ks kw) tt)))

-- newobj pushes the new one.
pub pushes_known_new : (p : Program) (k : Contracts) → UseKnown (pushes_new p k)
pushes_known_new p k = record { at_once = λ b v fs w kv ks kw. pushes_known p k b (Some v) fs w kv ks kw; waits = λ b v kv. kv }
