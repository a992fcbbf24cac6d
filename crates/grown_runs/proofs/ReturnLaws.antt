-- What goes down where a frame returns, and how groups end.
use Rattle.std.proofs.Common.{◌≡◌, ℕ, ◌+◌, ◌<◌, List, [], ◌∷◌, length, Option, Some, None, refl, sym, ap, ◌∙◌, subst}
use Rattle.std.specs.Prelude.{Bool, true, false, not, if◌then◌else◌, option_map, option_and_then}
use Rattle.cil_model.specs.declared.ty.Ty.{Ty}
use Rattle.cil_model.specs.declared.value.Value.{Value, out-Value}
use Rattle.cil_model.specs.declared.contract.Contracts.{Contracts}
use Rattle.cil_model.specs.declared.contract.Group.{Group}
use Rattle.cil_model.specs.declared.contract.Group.TheVariants as group
use Rattle.cil_model.specs.declared.program.Program.{Program}
use Rattle.cil_semantics.specs.Words.{maybe, same_bool}
use Rattle.cil_semantics.specs.Types.{under}
use Rattle.cil_semantics.specs.Lookups.{method_of}
use Rattle.cil_semantics.specs.declared.state.Cell.{Cell}
use Rattle.cil_semantics.specs.declared.state.World.{World}
use Rattle.cil_semantics.specs.declared.state.Frame.{Frame}
use Rattle.cil_semantics.specs.declared.state.ProgramPoint.{ProgramPoint}
use Rattle.cil_semantics.specs.declared.state.ProgramPoint.TheVariants.{LeadIn, InGroup, Rest}
use Rattle.cil_semantics.specs.declared.state.Remaining.{Remaining}
use Rattle.cil_semantics.specs.declared.state.Continuation.{Continuation}
use Rattle.cil_semantics.specs.declared.state.Continuation.TheVariants.{Push, PushObject, PushStruct, ThrowObject, BeginCallee, UseField, TryNext}
use Rattle.cil_semantics.specs.State.{Next, with_local, pushed, lowered}
use Rattle.cil_semantics.specs.Acts.{flag, truth}
use Rattle.cil_semantics.specs.Places.{Storage, Truncated, Long, NativeInt, Reference, Address, Fields, Opaque, Anything, Void, storage}
use Rattle.cil_semantics.specs.Contracted.{Piece, Plan}
use Rattle.cil_semantics.specs.Unwind.{plan_at, begin_group, begin_piece, begin_rest, next_piece, ends_frame, unwind}
use Rattle.cil_semantics.specs.Frames.{if_there, stuck, use_static, enter_delegate, next_try}
use Rattle.cil_semantics.specs.Returns.{push_below, last_cell, try_next, tried, begin_below, return_with, return_to, begin_invariants, group_over, piece_over, kept_as, result_type, returned, return_from, returns}
use Rattle.machine_laws.specs.Answers.{Each}
use Rattle.grown_runs.specs.Grown.{GrowsAround}
use Rattle.grown_runs.specs.Looks.{LooksAlike}
use Rattle.grown_runs.proofs.AlikeLaws.{HeldWorld, Alike, ends, there, perhaps, choose, given}
use Rattle.grown_runs.proofs.PlanLaws.{KeepsPlan, KeepsPlanIf}
use Rattle.grown_runs.proofs.MoveLaws.{OwnFrames, next_same, begins_piece, begins_group, begins_rest, with_plan, frame_ends, unwinds}
use Rattle.grown_runs.proofs.ReadLaws.{OwnAccess, goes_on, uses}
use Rattle.grown_runs.proofs.EnterLaws.{OwnDelegates, OwnInitializers, begins, enters_delegate}

-- a static that is used when an initializer has run is of the input
abbrev pub OwnBack : Program → Continuation → Type 0
OwnBack p0 (UseField a) = OwnAccess p0 a
OwnBack p0 Push = Unit {0}
OwnBack p0 (PushObject v) = Unit {0}
OwnBack p0 PushStruct = Unit {0}
OwnBack p0 (ThrowObject x) = Unit {0}
OwnBack p0 BeginCallee = Unit {0}
OwnBack p0 (TryNext exists target left) = Unit {0}

module _ (p0 p : Program) (k : Contracts) (e : ℕ) (h : GrowsAround p0 p k e) (l : LooksAlike p0 p e) (init : OwnInitializers p0 p) where
  abbrev A : (Program → Next) → Type 0
  A F = Alike p0 p e F

  -- the frame that runs, those below it, and the world
  pub record Stands (f : Frame) (fs : List Frame) (w : World) : Type 0 where
    pub own : f.method < length p0.methods
    pub back : OwnBack p0 f.continuation
    pub others : OwnFrames p0 fs
    pub delegates : OwnDelegates p0 w
    pub held : HeldWorld p0 e w

  pub pushes : (v : Option Value) (fs : List Frame) (w : World) → OwnFrames p0 fs → HeldWorld p0 e w → A (λ q. push_below q k v fs w)
  pushes v [] w own held = (refl, tt)
  pushes v (f ∷ fs) w own held = goes_on p0 p k e h l f (maybe f.local (λ x. pushed x f.local) v) fs w own.0 held

  pub tries : (exists : Bool) (target : Value) (o : Option (Value × Remaining)) (fs : List Frame) (w : World) → OwnDelegates p0 w → OwnFrames p0 fs → HeldWorld p0 e w → A (λ q. try_next q k exists target o fs w)
  tries exists target None fs w all own held = pushes (Some (flag (not exists))) fs w own held
  tries exists target (Some x) fs w all own held = enters_delegate p0 p k e h l init true (out-Value target) (x.0 ∷ []) (TryNext exists target x.1) fs w all own held

  has_tried : (exists : Bool) (target : Value) (left : Remaining) (o : Option Bool) (fs : List Frame) (w : World) → OwnDelegates p0 w → OwnFrames p0 fs → HeldWorld p0 e w → A (λ q. tried q k exists target left o fs w)
  has_tried exists target left None fs w all own held = ends p0 p e w
  has_tried exists target left (Some b) fs w all own held =
      choose p0 p e (λ q. same_bool exists b) (λ q. push_below q k (Some (flag exists)) fs w) (λ q. try_next q k exists target (next_try w left) fs w) refl (λ c. pushes (Some (flag exists)) fs w own held) (λ c. tries exists target (next_try w left) fs w all own held)

  begins_below : (fs : List Frame) (w : World) → OwnFrames p0 fs → HeldWorld p0 e w → A (λ q. begin_below q k fs w)
  begins_below [] w own held = ends p0 p e w
  begins_below (f ∷ fs) w own held = begins p0 p k e h l init f fs w own.0 held

  uses_below : (b : Continuation) (args : List Cell) (v : Option Value) (fs : List Frame) (w : World) → OwnBack p0 b → OwnDelegates p0 w → OwnFrames p0 fs → HeldWorld p0 e w → A (λ q. return_with q k b args v fs w)
  uses_below Push args v fs w back all own held = pushes v fs w own held
  uses_below (PushObject x) args v fs w back all own held = pushes (Some x) fs w own held
  uses_below PushStruct args v fs w back all own held = pushes (last_cell args) fs w own held
  uses_below (ThrowObject x) args v fs w back all own held = unwinds p0 p k e h l false fs w x own held
  uses_below BeginCallee args v fs w back all own held = begins_below fs w own held
  uses_below (UseField a) args v [] w back all own held = ends p0 p e w
  uses_below (UseField a) args v (f ∷ fs) w back all own held = uses p0 p k e h l a f f.local fs w back own.0 own.1 held
  uses_below (TryNext exists target left) args v fs w back all own held = has_tried exists target left (option_and_then truth v) fs w all own held

  pub returns_to : (f : Frame) (fs : List Frame) (w : World) → Stands f fs w → A (λ q. return_to q k f fs w)
  unfolding return_to
  returns_to f fs w s = uses_below f.continuation f.local.args f.local.result fs w s.back s.delegates s.others s.held

  begins_invariants : (plan : Plan) (f : Frame) (fs : List Frame) (w : World) → KeepsPlan p0 p plan → Stands f fs w → A (λ q. begin_invariants q k plan f fs w)
  begins_invariants plan f fs w kept s = begins_group p0 p k e h l plan group.Invariant f fs w (λ q. return_to q k f fs w) s.own kept s.held (returns_to f fs w s)

  group_ends : (plan : Plan) (gr : Group) (f : Frame) (fs : List Frame) (w : World) → KeepsPlan p0 p plan → Stands f fs w → A (λ q. group_over q k plan gr f fs w)
  group_ends plan group.Entry f fs w kept s = begins_rest p0 p k e h l plan f fs w s.own s.held
  group_ends plan group.Exit f fs w kept s = begins_invariants plan f fs w kept s
  group_ends plan group.Invariant f fs w kept s = returns_to f fs w s
  group_ends plan group.Throw f fs w kept s =
      perhaps p0 p e (λ q. f.thrown) (λ q. stuck w) (λ q x. ends_frame q f.initializes f.continuation w x (λ skip v y. unwind q k skip fs v y)) refl (λ c. ends p0 p e w)
      (λ x c. frame_ends p0 p k e h l f.initializes f.continuation w x (λ q skip v y. unwind q k skip fs v y) s.held (λ skip v y okay. unwinds p0 p k e h l skip fs v y s.others okay))
  group_ends plan group.Inline f fs w kept s = ends p0 p e w

  abbrev lower : (f : Frame) (fs : List Frame) (w : World) → Stands f fs w → Stands f fs (lowered w)
  lower f fs w s = record { own = s.own; back = s.back; others = s.others; delegates = s.delegates; held = s.held }

  pub piece_ends : (plan : Plan) (gr : Group) (i : ℕ) (f : Frame) (fs : List Frame) (w : World) → KeepsPlan p0 p plan → Stands f fs w → A (λ q. piece_over q k plan gr i f fs w)
  piece_ends plan gr i f fs w kept s =
      given p0 p e (λ q. next_piece q plan gr (i + 1) f fs w) (λ q o. begin_piece q gr o f fs w (group_over q k plan gr f fs (lowered w))) (next_same p0 p k e h l plan gr (i + 1) f fs w kept s.held)
      (begins_piece p0 p k e h l gr (next_piece p plan gr (i + 1) f fs w) f fs w (λ q. group_over q k plan gr f fs (lowered w)) s.own s.held (group_ends plan gr f fs (lowered w) kept (lower f fs w s)))

  -- ---- ret

  kept_same : (t : Ty) (s : Storage) (vs : List Value) → kept_as p t s vs ≡ kept_as p0 t s vs
  kept_same t Void vs = refl
  kept_same t (Truncated b s) [] = refl
  kept_same t Long [] = refl
  kept_same t NativeInt [] = refl
  kept_same t Reference [] = refl
  kept_same t Address [] = refl
  kept_same t (Fields n) [] = refl
  kept_same t Opaque [] = refl
  kept_same t Anything [] = refl
  kept_same t (Truncated b s) (v ∷ vs) = ap (option_map Some) (l.stores t v)
  kept_same t Long (v ∷ vs) = ap (option_map Some) (l.stores t v)
  kept_same t NativeInt (v ∷ vs) = ap (option_map Some) (l.stores t v)
  kept_same t Reference (v ∷ vs) = ap (option_map Some) (l.stores t v)
  kept_same t Address (v ∷ vs) = ap (option_map Some) (l.stores t v)
  kept_same t (Fields n) (v ∷ vs) = ap (option_map Some) (l.stores t v)
  kept_same t Opaque (v ∷ vs) = ap (option_map Some) (l.stores t v)
  kept_same t Anything (v ∷ vs) = ap (option_map Some) (l.stores t v)

  returned_same : (f : Frame) (vs : List Value) → f.method < length p0.methods → returned p f vs ≡ returned p0 f vs
  returned_same f vs own =
      ap (λ t. kept_as p (under f.type_args f.method_args t) (storage p (under f.type_args f.method_args t)) vs) (h.tables.extends.methods f.method own).result
      ∙ ap (λ s. kept_as p (result_type p0 f) s vs) (l.storages (result_type p0 f)) ∙ kept_same (result_type p0 f) (storage p0 (result_type p0 f)) vs

  returns_from : (plan : Option Plan) (at : ProgramPoint) (f : Frame) (fs : List Frame) (w : World) → KeepsPlanIf p0 p plan → Stands f fs w → A (λ q. return_from q k plan at f fs w)
  returns_from None at f fs w kept s = returns_to f fs w s
  returns_from (Some plan) (LeadIn i) f fs w kept s = returns_to f fs w s
  returns_from (Some plan) (InGroup gr j i) f fs w kept s = ends p0 p e w
  returns_from (Some plan) (Rest i) f fs w kept s =
      begins_group p0 p k e h l plan group.Exit f fs w (λ q. begin_invariants q k plan f fs w) s.own kept s.held (begins_invariants plan f fs w kept s)

  pub rets : (f : Frame) (fs : List Frame) (w : World) → Stands f fs w → A (λ q. returns q k f fs w)
  rets f fs w s =
      there p0 p e w (λ q. returned q f f.local.stack) (λ q v. return_from q k (plan_at k q f.method) f.at (with_local (record f.local { result = v }) f) fs w) (returned_same f f.local.stack s.own)
      (λ v c. with_plan p0 p k e h l f.method (λ q o. return_from q k o f.at (with_local (record f.local { result = v }) f) fs w) s.own
      (λ kept. returns_from (plan_at k p f.method) f.at (with_local (record f.local { result = v }) f) fs w kept (record { own = s.own; back = s.back; others = s.others; delegates = s.delegates; held = s.held })))
