-- Loads, stores, uses of statics, and frames that begin behind initializers: references stay.
use Rattle.std.proofs.Common.{◌≡◌, ℕ, Bool, true, false, List, [], ◌∷◌, ◌++◌, length, Option, Some, None, refl, subst}
use Rattle.std.specs.Prelude.{if◌then◌else◌, option_map, option_and_then, find, not, ◌&&◌}
use Rattle.cil_model.specs.declared.ty.Ty.{Ty}
use Rattle.cil_model.specs.declared.value.Value.{Value, Ptr}
use Rattle.cil_model.specs.declared.value.Pointer.{Pointer}
use Rattle.cil_model.specs.declared.value.Pointer.TheVariants.{Arg}
use Rattle.cil_model.specs.declared.contract.Contracts.{Contracts}
use Rattle.cil_model.specs.declared.program.Program.{Program}
use Rattle.il_opcodes.specs.declared.class.Storage.{Storage}
use Rattle.il_opcodes.specs.declared.class.Storage.TheVariants.{Anything}
use Rattle.cil_semantics.specs.Types.{same_ty}
use Rattle.cil_semantics.specs.Lookups.{method_of, type_of}
use Rattle.cil_semantics.specs.Dispatch.{methods_of}
use Rattle.cil_semantics.specs.Places.{seen_as, new_cell, default_cell}
use Rattle.cil_semantics.specs.declared.state.Cell.{Cell}
use Rattle.cil_semantics.specs.declared.state.Init.{Init}
use Rattle.cil_semantics.specs.declared.state.Init.TheVariants.{Begun, Failed}
use Rattle.cil_semantics.specs.declared.state.Statics.{Statics}
use Rattle.cil_semantics.specs.declared.state.World.{World}
use Rattle.cil_semantics.specs.declared.state.Local.{Local}
use Rattle.cil_semantics.specs.declared.state.Frame.{Frame}
use Rattle.cil_semantics.specs.declared.state.Access.{Access}
use Rattle.cil_semantics.specs.declared.state.Access.TheVariants.{Read, Write, PointTo}
use Rattle.cil_semantics.specs.declared.state.Continuation.{Continuation}
use Rattle.cil_semantics.specs.declared.state.Continuation.TheVariants.{BeginCallee, UseField, PushStruct}
use Rattle.cil_semantics.specs.State.{Next, pushed}
use Rattle.cil_semantics.specs.Unwind.{plan_at, next_place, find_statics}
use Rattle.cil_semantics.specs.Frames.{if_there, read, write, go_on, go_on_top, load, store, copy, use_static, Initializer, Ready, FailedWith, ToRun, initializer_state, initializer, is_initializer, with_begun, static_cells, stored_args, param_types, frame_with, begin, initializer_frame, begin_behind, is_use, begin_use, enter, enter_struct, use_behind}
use Rattle.splice_facts.specs.Exceptions.{IsObject, FailureThere}
use Rattle.object_validity.specs.Known.{KnownValue, KnownValues, KnownCells, KnownLocal, KnownWorld, KnownAccess, KnownContinuation, KnownFrame, KnownFrames, KeepsReferences}
use Rattle.object_validity.proofs.StoredLaws.{read_fine, boxed_fine, default_fine, defaults_fine, static_cells_fine}
use Rattle.object_validity.proofs.ChangeLaws.{seen_fine}
use Rattle.object_validity.proofs.MoveLaws.{arrives_known, unwinds_known, statics_set}
use Rattle.object_validity.proofs.WriteLaws.{write_known, init_found, Left}

abbrev Keeps : Next → Type 0
Keeps x = KeepsReferences x

pub there_known : {X : Type 0} (o : Option X) (w : World) (go : X → Next) → ((x : X) → o ≡ Some x → Keeps (go x)) → Keeps (if_there o w go)
there_known None w go h = tt
there_known (Some x) w go h = h x refl

pub either_known : (c : Bool) (x y : Next) → Keeps x → Keeps y → Keeps (if c then x else y)
either_known true x y a b = a
either_known false x y a b = b

-- the frame with other locals
pub with_locals : (b : ℕ) (f : Frame) (l : Local) → KnownLocal b l → KnownFrame b f → KnownFrame b (record f { local = l })
with_locals b f l kl kf = record { local = kl; handling = kf.handling; thrown = kf.thrown; back = kf.back }

pub pushed_known : (b : ℕ) (v : Value) (l : Local) → KnownValue b v → KnownLocal b l → KnownLocal b (pushed v l)
pushed_known b v l kv kl = record { args = kl.args; locals = kl.locals; captured = kl.captured; result = kl.result; stack = (kv, kl.stack) }

module _ (p : Program) (k : Contracts) where
  pub goes_on : (b : ℕ) (f : Frame) (l : Local) (fs : List Frame) (w : World) → KnownLocal b l → KnownFrame b f → KnownFrames b fs → KnownWorld b w → Keeps (go_on p k f l fs w)
  goes_on b f l fs w kl kf ks kw = arrives_known p b (plan_at k p f.method) f (next_place f.at) l f.handling fs w kl kf.handling kf ks kw

  -- what is read as a kind
  seen_known : (b : ℕ) (h : Storage) (o : Option Value) (w : World) (go : Value → Next) → ((x : Value) → o ≡ Some x → KnownValue b x) → ((x : Value) → KnownValue b x → Keeps (go x)) → Keeps (if_there (option_and_then (seen_as h) o) w go)
  seen_known b h None w go kv next = tt
  seen_known b h (Some v) w go kv next = there_known (seen_as h v) w go (λ x e. next x (seen_fine b h v x (kv v refl) e))

  pub loads_known : (b : ℕ) (q : Pointer) (h : Storage) (f : Frame) (l : Local) (fs : List Frame) (w : World) → KnownLocal b l → KnownFrame b f → KnownFrames b fs → KnownWorld b w → Keeps (load p k q h f l fs w)
  loads_known b q h f l fs w kl kf ks kw =
      seen_known b h (read p (record f { local = l } ∷ fs) w q) w (λ v. go_on p k f (pushed v l) fs w) (λ x e. read_fine b p (record f { local = l } ∷ fs) w q x (with_locals b f l kl kf, ks) kw e)
      (λ x kx. goes_on b f (pushed x l) fs w (pushed_known b x l kx kl) kf ks kw)

  top_goes_on : (b : ℕ) (fs : List Frame) (w : World) → KnownFrames b fs → KnownWorld b w → Keeps (go_on_top p k fs w)
  top_goes_on b [] w ks kw = tt
  top_goes_on b (f ∷ fs) w ks kw = goes_on b f f.local fs w (ks.0).local ks.0 ks.1 kw

  pub stores_known : (b : ℕ) (q : Pointer) (v : Value) (f : Frame) (l : Local) (fs : List Frame) (w : World) → KnownValue b v → KnownLocal b l → KnownFrame b f → KnownFrames b fs → KnownWorld b w → Keeps (store p k q v f l fs w)
  stores_known b q v f l fs w kv kl kf ks kw =
      there_known (write p (record f { local = l } ∷ fs) w q v) w (λ (x : List Frame × World). go_on_top p k x.0 x.1)
      (λ x e. let left : Left b p x = write_known b p (record f { local = l } ∷ fs) w q v x (with_locals b f l kl kf, ks) kw kv e in top_goes_on b x.0 x.1 left.frames left.world)

  pub copies_known : (b : ℕ) (to from : Pointer) (h : Storage) (f : Frame) (l : Local) (fs : List Frame) (w : World) → KnownLocal b l → KnownFrame b f → KnownFrames b fs → KnownWorld b w → Keeps (copy p k to from h f l fs w)
  copies_known b to from h f l fs w kl kf ks kw =
      seen_known b h (read p (record f { local = l } ∷ fs) w from) w (λ v. store p k to v f l fs w) (λ x e. read_fine b p (record f { local = l } ∷ fs) w from x (with_locals b f l kl kf, ks) kw e)
      (λ x kx. stores_known b to x f l fs w kx kl kf ks kw)

  pub uses_known : (b : ℕ) (a : Access) (f : Frame) (l : Local) (fs : List Frame) (w : World) → KnownAccess b a → KnownLocal b l → KnownFrame b f → KnownFrames b fs → KnownWorld b w → Keeps (use_static p k a f l fs w)
  uses_known b (Read q) f l fs w ka kl kf ks kw = loads_known b q Anything f l fs w kl kf ks kw
  uses_known b (Write q v) f l fs w ka kl kf ks kw = stores_known b q v f l fs w ka kl kf ks kw
  uses_known b (PointTo q) f l fs w ka kl kf ks kw = goes_on b f (pushed (Ptr q) l) fs w (pushed_known b (Ptr q) l tt kl) kf ks kw

  -- ---- initializers

  abbrev InitThere : ℕ → Initializer → Type 0
  InitThere b Ready = Unit {0}
  InitThere b (FailedWith x) = IsObject b x
  InitThere b (ToRun m) = Unit {0}

  state_there : (b : ℕ) (o : Option Init) (m : Option ℕ) → FailureThere b o → InitThere b (initializer_state o m)
  state_there b (Some Begun) m h = tt
  state_there b (Some (Failed x)) m h = h
  state_there b None None h = tt
  state_there b None (Some m) h = tt

  pub initializer_there : (b : ℕ) (w : World) (t : Ty) → KnownWorld b w → InitThere b (initializer p w t)
  unfolding initializer
  initializer_there b w t kw = by_statics (find_statics t w.statics) (λ s e. init_found b p t w.statics s kw.statics e) (find (λ m. is_initializer (method_of p m) && not (type_of p (method_of p m).owner).reference) (methods_of p t))
    where
      by_statics : (o : Option Statics) → ((s : Statics) → o ≡ Some s → FailureThere b s.init) → (m : Option ℕ) → InitThere b (initializer_state (option_and_then (λ (s : Statics). s.init) o) m)
      by_statics None h m = state_there b None m tt
      by_statics (Some s) h m = state_there b s.init m (h s refl)

  begun_known : (b : ℕ) (t : Ty) (w : World) → KnownWorld b w → KnownWorld b (with_begun p t w)
  begun_known b t w kw = record { count = kw.count; heap = kw.heap; statics = statics_set b (same_ty t) (record { owner = t; init = Some Begun; cells = static_cells p w t }) w.statics kw.statics tt (static_cells_fine b p w t kw.statics) }

  -- ---- frames of calls

  pub frame_known : (b : ℕ) (owner : Ty) (m : ℕ) (args : List Ty) (cells : List Cell) (back : Continuation) (fs : List Frame) → KnownCells b cells → KnownContinuation b back → KnownFrame b (frame_with p k owner m args cells back fs)
  frame_known b owner m args cells back fs kc kb = record { local = record { args = kc; locals = defaults_fine b p _; captured = defaults_fine b p _; result = tt; stack = tt }; handling = tt; thrown = tt; back = kb }

  pub begins_known : (b : ℕ) (f : Frame) (fs : List Frame) (w : World) → KnownFrame b f → KnownFrames b fs → KnownWorld b w → Keeps (begin p k f fs w)
  begins_known b f fs w kf ks kw = arrives_known p b (plan_at k p f.method) f f.at f.local f.handling fs w kf.local kf.handling kf ks kw

  runs_initializer : (b : ℕ) (t : Ty) (m : ℕ) (back : Continuation) (fs : List Frame) (w : World) → KnownContinuation b back → KnownFrames b fs → KnownWorld b w → Keeps (begin p k (initializer_frame p k t m back fs) fs (with_begun p t w))
  runs_initializer b t m back fs w kb ks kw =
      let kf = frame_known b t m [] [] back fs tt kb in
      begins_known b (initializer_frame p k t m back fs) fs (with_begun p t w) (record { local = kf.local; handling = kf.handling; thrown = kf.thrown; back = kf.back }) ks (begun_known b t w kw)

  begins_behind : (b : ℕ) (i : Initializer) (t : Ty) (f : Frame) (fs : List Frame) (w : World) → InitThere b i → KnownFrame b f → KnownFrames b fs → KnownWorld b w → Keeps (begin_behind p k i t f fs w)
  begins_behind b Ready t f fs w there kf ks kw = begins_known b f fs w kf ks kw
  begins_behind b (FailedWith x) t f fs w there kf ks kw = unwinds_known p k fs b false w x ks kw there
  begins_behind b (ToRun m) t f fs w there kf ks kw = runs_initializer b t m BeginCallee (f ∷ fs) w tt (kf, ks) kw

  begins_use : (b : ℕ) (t : Ty) (f : Frame) (fs : List Frame) (w : World) → KnownFrame b f → KnownFrames b fs → KnownWorld b w → Keeps (begin_use p k t f fs w)
  begins_use b t f fs w kf ks kw =
      either_known (is_use (method_of p f.method)) (begin_behind p k (initializer p w t) t f fs w) (begin p k f fs w) (begins_behind b (initializer p w t) t f fs w (initializer_there b w t kw) kf ks kw) (begins_known b f fs w kf ks kw)

  pub use_begins : (b : ℕ) (i : Initializer) (t : Ty) (a : Access) (f : Frame) (l : Local) (fs : List Frame) (w : World) → InitThere b i → KnownAccess b a → KnownLocal b l → KnownFrame b f → KnownFrames b fs → KnownWorld b w → Keeps (use_behind p k i t a f l fs w)
  use_begins b Ready t a f l fs w there ka kl kf ks kw = uses_known b a f l fs w ka kl kf ks kw
  use_begins b (FailedWith x) t a f l fs w there ka kl kf ks kw = unwinds_known p k (record f { local = l } ∷ fs) b false w x (with_locals b f l kl kf, ks) kw there
  use_begins b (ToRun m) t a f l fs w there ka kl kf ks kw = runs_initializer b t m (UseField a) (record f { local = l } ∷ fs) w ka (with_locals b f l kl kf, ks) kw

  pub stored_known : (b : ℕ) (ts : List Ty) (vs : List Value) (cells : List Cell) → KnownValues b vs → stored_args p ts vs ≡ Some cells → KnownCells b cells
  stored_known b [] [] cells h e = let z : [] ≡ cells = cc e in subst (KnownCells b) z tt
  stored_known b [] (v ∷ vs) cells h e = absurd (cc e)
  stored_known b (t ∷ ts) [] cells h e = absurd (cc e)
  stored_known b (t ∷ ts) (v ∷ vs) cells h e = by_both (λ rest q. stored_known b ts vs rest h.1 q) (new_cell p t v) (stored_args p ts vs) refl refl e
    where
      by_both : ((rest : List Cell) → stored_args p ts vs ≡ Some rest → KnownCells b rest) → (o : Option Cell) (os : Option (List Cell)) → new_cell p t v ≡ o → stored_args p ts vs ≡ os → option_and_then (λ c. option_map (λ rest. c ∷ rest) os) o ≡ Some cells → KnownCells b cells
      by_both more None os eo es q = absurd (cc q)
      by_both more (Some c) None eo es q = absurd (cc q)
      by_both more (Some c) (Some rest) eo es q = let z : (c ∷ rest) ≡ cells = cc q in subst (KnownCells b) z (boxed_fine b p t v c h.0 eo, more rest es)

  pub enters_known : (b : ℕ) (owner : Ty) (m : ℕ) (args : List Ty) (values : List Value) (back : Continuation) (fs : List Frame) (w : World) → KnownValues b values → KnownContinuation b back → KnownFrames b fs → KnownWorld b w → Keeps (enter p k owner m args values back fs w)
  enters_known b owner m args values back fs w kv kb ks kw =
      there_known (stored_args p (param_types p owner m args) values) w (λ cells. begin_use p k owner (frame_with p k owner m args cells back fs) fs w)
      (λ cells e. begins_use b owner (frame_with p k owner m args cells back fs) fs w (frame_known b owner m args cells back fs (stored_known b (param_types p owner m args) values cells kv e) kb) ks kw)

  one_more_cell : (b : ℕ) (cs : List Cell) (c : Cell) → KnownCells b cs → KnownValue b c.value → KnownCells b (cs ++ c ∷ [])
  one_more_cell b [] c h kc = (kc, tt)
  one_more_cell b (x ∷ cs) c h kc = (h.0, one_more_cell b cs c h.1 kc)

  pub enters_struct : (b : ℕ) (owner : Ty) (m : ℕ) (args : List Ty) (values : List Value) (fs : List Frame) (w : World) → KnownValues b values → KnownFrames b fs → KnownWorld b w → Keeps (enter_struct p k owner m args values fs w)
  enters_struct b owner m args values fs w kv ks kw =
      let this : Value = Ptr (Arg (length fs) m (Rattle.std.specs.Prelude.◌+◌ (length values) 1) []) in
      there_known (stored_args p (param_types p owner m args) (this ∷ values)) w (λ cells. begin_use p k owner (frame_with p k owner m args (cells ++ default_cell p owner ∷ []) PushStruct fs) fs w)
      (λ cells e. begins_use b owner (frame_with p k owner m args (cells ++ default_cell p owner ∷ []) PushStruct fs) fs w
      (frame_known b owner m args (cells ++ default_cell p owner ∷ []) PushStruct fs (one_more_cell b cells (default_cell p owner) (stored_known b (param_types p owner m args) (this ∷ values) cells (tt, kv) e) (default_fine b p 1001 owner)) tt) ks kw)

pub placed_known : Rattle.object_validity.specs.Steps.EntersKnown
placed_known p k b owner m args values back fs w = enters_known p k b owner m args values back fs w
