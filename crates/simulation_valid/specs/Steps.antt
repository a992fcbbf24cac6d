-- What is known where a frame goes on, calls, returns or checks, and what then stays valid.
use Rattle.std.specs.Prelude.{◌≡◌, ℕ, suc, ◌+◌, ◌<◌, ◌≤◌, false, if◌then◌else◌, List, [], ◌∷◌, length, Option, Some, None, option_and_then, IsTrue}
use Rattle.cil_model.specs.declared.ty.Ty.{Ty}
use Rattle.cil_model.specs.declared.value.Value.{Value}
use Rattle.cil_model.specs.declared.value.Pointer.{Pointer}
use Rattle.cil_model.specs.declared.body.Instr.{Instr}
use Rattle.cil_model.specs.declared.contract.Contracts.{Contracts}
use Rattle.cil_model.specs.declared.contract.ClauseKind.{ClauseKind}
use Rattle.cil_model.specs.declared.contract.ClauseKind.TheVariants as kind
use Rattle.cil_model.specs.declared.contract.Group.{Group}
use Rattle.cil_model.specs.declared.program.Program.{Program}
use Rattle.cil_model.specs.declared.program.MethodDesc.{MethodDesc}
use Rattle.cil_model.specs.declared.run.Reply.{Reply}
use Rattle.cil_model.specs.NoContracts.{no_contracts}
use Rattle.il_opcodes.specs.declared.class.Storage.{Storage}
use Rattle.il_opcodes.specs.declared.class.Class.{Class}
use Rattle.il_opcodes.specs.declared.class.Class.TheVariants as class
use Rattle.il_opcodes.specs.Opcodes.{class_of}
use Rattle.cil_semantics.specs.Core.{Name}
use Rattle.cil_semantics.specs.Lookups.{args_of}
use Rattle.cil_semantics.specs.Places.{storage, is_void}
use Rattle.cil_semantics.specs.Tokens.{ref_type}
use Rattle.cil_semantics.specs.declared.state.Cell.{Cell}
use Rattle.cil_semantics.specs.declared.state.World.{World}
use Rattle.cil_semantics.specs.declared.state.Local.{Local}
use Rattle.cil_semantics.specs.declared.state.ProgramPoint.TheVariants.{InGroup}
use Rattle.cil_semantics.specs.declared.state.Cause.{Cause}
use Rattle.cil_semantics.specs.declared.state.Handling.{Handling}
use Rattle.cil_semantics.specs.declared.state.Frame.{Frame}
use Rattle.cil_semantics.specs.declared.state.Access.{Access}
use Rattle.cil_semantics.specs.declared.state.Continuation.{Continuation}
use Rattle.cil_semantics.specs.State.{with_stack}
use Rattle.cil_semantics.specs.Contracted.{Piece, Plan}
use Rattle.cil_semantics.specs.Unwind.{plan_at, here_of, moved_to, next_place, hasnt_begun, leave, resume_cause}
use Rattle.cil_semantics.specs.Frames.{go_on, load, store, use_static, enter, stored_args}
use Rattle.cil_semantics.specs.ContractCalls.{contract_call}
use Rattle.cil_semantics.specs.declared.contract_call.ContractCall.TheVariants.{ChecksHere}
use Rattle.cil_semantics.specs.Returns.{push_below, return_with, piece_over}
use Rattle.cil_semantics.specs.Outside.{Answer, Returned, Threw, Unfit, Member, ask}
use Rattle.cil_semantics.specs.Calls.{plain_call}
use Rattle.cil_semantics.specs.declared.state.Continuation.TheVariants.{Push}
use Rattle.cil_semantics.specs.Checks.{AddedNumbers, Failure, Sequel, Condition, made_type, throw_exception, goes_on_from, check_inline, end_clause, capture}
use Rattle.cil_semantics.specs.Acts.{Act, Stuck, GoOn, Jump, Raise, Throw, Rethrow, Leave, EndHandler, Return, Load, Store, Copy, UseStatic, CallMember, CallVirtual, NewObject, LoadVirtualFunction}
use Rattle.cil_semantics.specs.Machine.{start, perform, run_plain}
use Rattle.cil_semantics.specs.Instructions.{act, act_of_class}
use Rattle.machine_laws.specs.Answers.{is_below}
use Rattle.machine_laws.specs.Same.{IsEntry}
use Rattle.splice_facts.specs.WellFormed.{Bounds, WellFormedObjects, WellFormedValue, WellFormedValues, WellFormedCells, WellFormedIf, WellFormedWorld, WellFormedContinuation, WellFormedPointer, WellFormedAccess}
use Rattle.splice_facts.specs.Input.{is_group, top_of, result_count, access_count}
use Rattle.splice_facts.specs.Layout.{IsHere, fetch}
use Rattle.splice_facts.specs.Spliced.{FitsGroup, AreLow, cost}
use Rattle.splice_facts.specs.Related.{EmptyAt, CauseLeads, HandlersLead, Rewritten, ReachesIn, ValidFrame, ValidFrames, HeightsBelow, HasHeight, bounds, written, per_frame, in_group, count_groups}
use Rattle.simulation_valid.specs.Changes.{ChangedFrames}
use Rattle.simulation_valid.specs.Keeping.{ReturnsFully, KeepsReturned, AllReturn, StructThere, NoneVoid, StaysValid, ValidPlaces, ValidBelow, ValidTail, TailHeights, Placed}

module _ (p : Program) (k : Contracts) (ms : List MethodDesc) (g : AddedNumbers) (r : Rewritten p k ms g) where
  abbrev Bs : Bounds
  Bs = bounds p k ms g r

  -- what is known of the topmost frame and of those below it
  pub record Topmost (f : Frame) (fs : List Frame) (w : World) : Type 0 where
    pub frame : ValidFrame p k ms g r f fs
    pub as_named : ReturnsFully p f
    pub counted : KeepsReturned p f f.at
    pub below : ValidBelow p k ms g r f fs w
    pub count : w.depth ≡ in_group f.at + count_groups fs
    pub deep : w.depth ≤ suc k.settings.guard

  -- the frame below has with what is pushed the height of the place where it goes on
  abbrev pub NextHeight : ℕ → List Frame → Type 0
  NextHeight n [] = Unit {0}
  NextHeight n (f ∷ fs) = HasHeight p k ms g r f (next_place f.at) n

  -- frames to which a value is given
  pub record MayPush (fs : List Frame) (w : World) : Type 0 where
    pub others : ValidFrames p k ms g r fs
    pub returning : AllReturn p fs
    pub heights : TailHeights p k ms g r fs
    pub world : WellFormedWorld (bounds p k ms g r) w
    pub count : w.depth ≡ count_groups fs
    pub deep : w.depth ≤ suc k.settings.guard

  -- locals for the topmost frame: what an instruction leaves of them
  pub record Leaves (f : Frame) (l : Local) (fs : List Frame) (n : ℕ) : Type 0 where
    pub places : ValidPlaces p k ms g r (record f { local = l }) fs
    pub same : l.result ≡ f.local.result
    pub height : HasHeight p k ms g r (record f { local = l }) (next_place f.at) n

  -- frames to which a call's value is to go
  pub record MayEnter (b : Continuation) (m : ℕ) (fs : List Frame) (w : World) : Type 0 where
    pub tail : ValidTail p k ms g r b fs
    pub begun : hasnt_begun b ≡ false
    pub waiting : (f : Frame) → f.continuation ≡ b → f.method ≡ m → HeightsBelow p k ms g r f fs
    pub world : WellFormedWorld Bs w
    pub fine_back : WellFormedContinuation Bs b
    pub count : w.depth ≡ count_groups fs
    pub deep : w.depth ≤ suc k.settings.guard

  -- frames that wait for what a method of a number returns
  pub record MayReturn (m : ℕ) (b : Continuation) (fs : List Frame) (w : World) : Type 0 where
    pub tail : ValidTail p k ms g r b fs
    pub waiting : (f : Frame) → f.continuation ≡ b → f.method ≡ m → HeightsBelow p k ms g r f fs
    pub world : WellFormedWorld Bs w
    pub fine_back : WellFormedContinuation Bs b
    pub count : w.depth ≡ count_groups fs
    pub deep : w.depth ≤ suc k.settings.guard

  -- the topmost frame at its place, over frames that it returns to
  pub record RunsHere (f : Frame) (fs : List Frame) (w : World) : Type 0 where
    pub top : Topmost f fs w
    pub here : IsHere (plan_at k p f.method) f.at
    pub placed : Placed p k ms g r f.continuation fs

  -- where a failed Requires<E> makes its exception, what is made is valid
  abbrev pub MakesValid : Failure → Sequel → List Frame → ℕ → Type 0
  MakesValid x s fs d = (v : World) (t : Ty) (text : Value) → x.kind ≡ kind.RequiresOf → made_type x ≡ Some t → WellFormedValue Bs text → WellFormedWorld Bs v → v.depth ≡ d → StaysValid p k ms g r (throw_exception p g k.settings.throwing x s t text fs v)

  -- frames and world as a call outside leaves them
  pub record AfterCall (fs : List Frame) (w : World) (gs : List Frame) (w2 : World) : Type 0 where
    pub frames : ChangedFrames Bs fs gs
    pub world : WellFormedWorld Bs w2
    pub depth : w2.depth ≡ w.depth

  -- a value where the member has a result, and no frame lost
  abbrev pub ValidAnswer : Member → List Frame → World → Answer → Type 0
  ValidAnswer m fs w (Returned v gs w2) = AfterCall fs w gs w2 × WellFormedIf Bs v × (length (top_of v) ≡ (if is_void (storage p m.result) then 0 else 1))
  ValidAnswer m fs w (Threw x gs w2) = AfterCall fs w gs w2
  ValidAnswer m fs w (Unfit w2) = Unit {0}

  -- where a leave leads there is nothing on the stack
  abbrev pub IsEmptyAt : Frame → ℕ → Type 0
  IsEmptyAt f t = EmptyAt p k ms g r f.method f.at t

  -- and so it is where a handler interrupted one
  abbrev pub MayResume : Frame → Cause → Type 0
  MayResume f c = CauseLeads p k ms g r f.method f.at c

  -- the innermost handler of a frame, which ends
  abbrev pub MayEnd : Frame → List Handling → Type 0
  MayEnd f [] = Unit {0}
  MayEnd f (h ∷ hs) = (is_group f.at ≡ false) × IsHere (plan_at k p f.method) (moved_to h.place f.at) × MayResume f h.cause

  -- an act that calls nothing leaves locals, pointers and values that are well formed, with the height of the place that it leads to
  abbrev pub ValidAct : Frame → List Frame → Act → Type 0
  ValidAct f fs Stuck = Unit {0}
  ValidAct f fs (GoOn made l) = WellFormedObjects Bs made × Leaves f l fs 0
  ValidAct f fs (Jump t l) = ValidPlaces p k ms g r (record f { local = l }) fs × (l.result ≡ f.local.result) × HasHeight p k ms g r (record f { local = l }) (moved_to t f.at) 0
  ValidAct f fs (Raise name) = Unit {0}
  ValidAct f fs (Throw x) = Unit {0}
  ValidAct f fs Rethrow = Unit {0}
  ValidAct f fs (Leave t) = (is_group f.at ≡ false) × IsEmptyAt f t
  ValidAct f fs EndHandler = MayEnd f f.handling
  ValidAct f fs Return = Unit {0}
  ValidAct f fs (Load q h l) = Leaves f l fs 1 × WellFormedPointer Bs q
  ValidAct f fs (Store q v l) = Leaves f l fs 0 × WellFormedPointer Bs q × WellFormedValue Bs v
  ValidAct f fs (Copy to from h l) = Leaves f l fs 0 × WellFormedPointer Bs to × WellFormedPointer Bs from
  ValidAct f fs (UseStatic t a l) = Leaves f l fs (access_count a) × WellFormedAccess Bs a × IsTrue (is_below r.types t) × NoneVoid p (args_of t)
  ValidAct f fs (CallMember c l) = ⊥
  ValidAct f fs (CallVirtual c l) = ⊥
  ValidAct f fs (NewObject c l) = ⊥
  ValidAct f fs (LoadVirtualFunction c l) = ⊥

  -- the same but for heights, which the body has
  abbrev pub FineAct : Frame → List Frame → Act → Type 0
  FineAct f fs Stuck = Unit {0}
  FineAct f fs (GoOn made l) = WellFormedObjects Bs made × ValidPlaces p k ms g r (record f { local = l }) fs × (l.result ≡ f.local.result)
  FineAct f fs (Jump t l) = ValidPlaces p k ms g r (record f { local = l }) fs × (l.result ≡ f.local.result)
  FineAct f fs (Raise name) = Unit {0}
  FineAct f fs (Throw x) = Unit {0}
  FineAct f fs Rethrow = Unit {0}
  FineAct f fs (Leave t) = is_group f.at ≡ false
  FineAct f fs EndHandler = MayEnd f f.handling
  FineAct f fs Return = Unit {0}
  FineAct f fs (Load q h l) = ValidPlaces p k ms g r (record f { local = l }) fs × (l.result ≡ f.local.result) × WellFormedPointer Bs q
  FineAct f fs (Store q v l) = ValidPlaces p k ms g r (record f { local = l }) fs × (l.result ≡ f.local.result) × WellFormedPointer Bs q × WellFormedValue Bs v
  FineAct f fs (Copy to from h l) = ValidPlaces p k ms g r (record f { local = l }) fs × (l.result ≡ f.local.result) × WellFormedPointer Bs to × WellFormedPointer Bs from
  FineAct f fs (UseStatic t a l) = ValidPlaces p k ms g r (record f { local = l }) fs × (l.result ≡ f.local.result) × WellFormedAccess Bs a × IsTrue (is_below r.types t) × NoneVoid p (args_of t)
  FineAct f fs (CallMember c l) = ⊥
  FineAct f fs (CallVirtual c l) = ⊥
  FineAct f fs (NewObject c l) = ⊥
  FineAct f fs (LoadVirtualFunction c l) = ⊥

  -- What is asked of an instruction by its class (ECMA-335, Partition III): of a call that it is stuck, and so calls nothing.
  abbrev pub MayStep : Instr → Frame → List Frame → World → Class → Type 0
  MayStep i f fs w class.Call = FineAct f fs (act_of_class p (here_of f fs) i w f.local class.Call)
  MayStep i f fs w class.CallVirtual = FineAct f fs (act_of_class p (here_of f fs) i w f.local class.CallVirtual)
  MayStep i f fs w class.NewObject = FineAct f fs (act_of_class p (here_of f fs) i w f.local class.NewObject)
  MayStep i f fs w class.LoadVirtualFunction = FineAct f fs (act_of_class p (here_of f fs) i w f.local class.LoadVirtualFunction)
  MayStep i f fs w c = Unit {0}

  -- the frames that a call of a method leaves behind
  pub record MayCall (m : ℕ) (fs : List Frame) (w : World) : Type 0 where
    pub tail : ValidTail p k ms g r Push fs
    pub next : NextHeight (result_count p m) fs
    pub world : WellFormedWorld Bs w
    pub count : w.depth ≡ count_groups fs
    pub deep : w.depth ≤ suc k.settings.guard

  -- ---- what is proved

  -- What such an act comes to is valid: also jumps, exceptions, `leave`, `endfinally`, and `ret` with the groups at exit.
  abbrev pub PerformsValid : Type 0
  PerformsValid = (a : Act) (f : Frame) (fs : List Frame) (w : World) → RunsHere f fs w → ValidAct f fs a → StaysValid p k ms g r (perform p k g a f fs w)

  -- What an instruction leaves is well formed, by its class.
  abbrev pub ActsFine : Type 0
  ActsFine = (i : Instr) (f : Frame) (fs : List Frame) (w : World) → RunsHere f fs w → fetch p k g (plan_at k p f.method) f.method f.at ≡ Some i → MayStep i f fs w (class_of i.op) → FineAct f fs (act p (here_of f fs) i w f.local)

  -- A step at an instruction that calls nothing.
  abbrev pub StepsValid : Type 0
  StepsValid =
      (i : Instr) (f : Frame) (fs : List Frame) (w : World) → RunsHere f fs w → HasHeight p k ms g r f f.at 0 → fetch p k g (plan_at k p f.method) f.method f.at ≡ Some i → MayStep i f fs w (class_of i.op) → StaysValid p k ms g r (run_plain p k g i f fs w)

  abbrev pub PushesValid : Type 0
  PushesValid = (v : Option Value) (fs : List Frame) (w : World) → MayPush fs w → WellFormedIf Bs v → NextHeight (length (top_of v)) fs → StaysValid p k ms g r (push_below p k v fs w)

  abbrev pub LeavesValid : Type 0
  LeavesValid =
      (skip q t : ℕ) (f : Frame) (hs : List Handling) (fs : List Frame) (w : World) → RunsHere f fs w → is_group f.at ≡ false → IsHere (plan_at k p f.method) (moved_to q f.at) → AreLow p k (written p k ms g r) g r.types r.depths f.method hs × HandlersLead p k ms g r f.method f.at hs → IsEmptyAt f t → StaysValid p k ms g r (leave p k skip q t f hs fs w)

  abbrev pub ResumesValid : Type 0
  ResumesValid =
      (h : Handling) (hs : List Handling) (c : Cause) (f : Frame) (fs : List Frame) (w : World) → RunsHere f fs w → is_group f.at ≡ false → IsHere (plan_at k p f.method) (moved_to h.place f.at) → AreLow p k (written p k ms g r) g r.types r.depths f.method hs × HandlersLead p k ms g r f.method f.at hs → MayResume f c → StaysValid p k ms g r (resume_cause p k h c hs f fs w)

  abbrev pub LoadsValid : Type 0
  LoadsValid = (q : Pointer) (h : Storage) (f : Frame) (l : Local) (fs : List Frame) (w : World) → Topmost f fs w → Leaves f l fs 1 → WellFormedPointer Bs q → StaysValid p k ms g r (load p k q h f l fs w)

  abbrev pub StoresValid : Type 0
  StoresValid = (q : Pointer) (v : Value) (f : Frame) (l : Local) (fs : List Frame) (w : World) → Topmost f fs w → Leaves f l fs 0 → WellFormedPointer Bs q → WellFormedValue Bs v → StaysValid p k ms g r (store p k q v f l fs w)

  abbrev pub StaticsValid : Type 0
  StaticsValid = (a : Access) (f : Frame) (l : Local) (fs : List Frame) (w : World) → Topmost f fs w → Leaves f l fs (access_count a) → WellFormedAccess Bs a → StaysValid p k ms g r (use_static p k a f l fs w)

  abbrev pub EntersValid : Type 0
  EntersValid =
      (owner : Ty) (m : ℕ) (args : List Ty) (values : List Value) (b : Continuation) (fs : List Frame) (w : World) → m < r.methods → IsTrue (is_below r.types owner) → NoneVoid p (args_of owner) → NoneVoid p args → WellFormedValues Bs values → ((cells : List Cell) → StructThere b cells) → MayEnter b m fs w → StaysValid p k ms g r (enter p k owner m args values b fs w)

  abbrev pub ReturnsValid : Type 0
  ReturnsValid =
      (b : Continuation) (m : ℕ) (args : List Cell) (v : Option Value) (fs : List Frame) (w : World) → MayReturn m b fs w → WellFormedIf Bs v → WellFormedCells Bs args → StructThere b args → length (top_of v) ≡ result_count p m → StaysValid p k ms g r (return_with p k b args v fs w)

  abbrev pub PiecesEndValid : Type 0
  PiecesEndValid =
      (c : Plan) (gr : Group) (j q : ℕ) (h : Frame) (fs : List Frame) (w : World) → plan_at k p h.method ≡ Some c → ValidPlaces p k ms g r h fs → ValidBelow p k ms g r h fs w → Placed p k ms g r h.continuation fs → w.depth ≡ 1 + count_groups fs → w.depth ≤ suc k.settings.guard → FitsGroup p k (written p k ms g r) g r.types r.depths gr h.thrown → KeepsReturned p h (InGroup gr j q)
      → StaysValid p k ms g r (piece_over p k c gr j h fs w)

  abbrev pub AsksValid : Type 0
  AsksValid =
      (m : Member) (values : List Value) (fs : List Frame) (w : World) → WellFormedValues Bs values → WellFormedWorld Bs w → WellFormedIf Bs m.default → ((cells : List Cell) → stored_args p m.params values ≡ Some cells → length (top_of m.default) ≡ (if is_void (storage p m.result) then 0 else 1)) → ValidAnswer m fs w (ask p m values fs w)

  -- a call of a member outside, or of one with a body
  abbrev pub CallsValid : Type 0
  CallsValid =
      (owner : Ty) (m : ℕ) (args : List Ty) (values : List Value) (fs : List Frame) (w : World) → m < r.methods → IsTrue (is_below r.types owner) → NoneVoid p (args_of owner) → NoneVoid p args → WellFormedValues Bs values → MayCall m fs w → StaysValid p k ms g r (plain_call p k owner m args values fs w)

  abbrev pub ClausesEndValid : Type 0
  ClausesEndValid =
      (c : Plan) (gr : Group) (j q : ℕ) (x : Piece) (i : Instr) (f : Frame) (fs : List Frame) (w : World) → plan_at k p f.method ≡ Some c → f.at ≡ InGroup gr j q → RunsHere f fs w
      → ((o : Condition) → WellFormedValues Bs o.rest → let l : Local = with_stack f.local o.rest in MakesValid (record { kind = x.clause.kind; exception = option_and_then (ref_type p (here_of f fs)) x.clause.exception; home = x.clause.home; user = o.user; label = x.clause.label }) (goes_on_from p k (record f { local = l } ∷ fs) (λ v. piece_over p k c gr j (record f { local = l }) fs v)) (record f { local = l } ∷ fs) w.depth)
      → StaysValid p k ms g r (end_clause p k g c gr j x i f fs w)

  abbrev pub CapturesValid : Type 0
  CapturesValid =
      (c : Plan) (gr : Group) (j q n : ℕ) (f : Frame) (s : List Value) (fs : List Frame) (w : World) → plan_at k p f.method ≡ Some c → f.at ≡ InGroup gr j q → RunsHere f fs w → WellFormedValues Bs s → StaysValid p k ms g r (capture p k c gr j n f s fs w)

  abbrev pub ChecksHereValid : Type 0
  ChecksHereValid =
      (c : Plan) (kd : ClauseKind) (home : ℕ) (label : Name) (i : Instr) (f : Frame) (fs : List Frame) (w : World) → plan_at k p f.method ≡ Some c → fetch p k g (Some c) f.method f.at ≡ Some i → contract_call p i ≡ ChecksHere kd → RunsHere f fs w → HasHeight p k ms g r f f.at 0
      → ((o : Condition) → MakesValid (record { kind = kd; exception = None; home = home; user = o.user; label = label }) (goes_on_from p k (record f { local = with_stack f.local o.rest } ∷ fs) (λ v. go_on p k f (with_stack f.local o.rest) fs v)) (record f { local = with_stack f.local o.rest } ∷ fs) w.depth)
      → StaysValid p k ms g r (check_inline p k g c kd home label i f fs w)

  -- both runs of an entry begin in states that go together
  abbrev pub StartsAlike : Type 0
  StartsAlike = (m : ℕ) (args : List Value) (rs : List Reply) → m < r.methods → ReachesIn p k ms g r (cost k p + per_frame p k ms g r 2) (start p k m args rs) (start (written p k ms g r) no_contracts m args rs)

  abbrev pub StartsValid : Type 0
  StartsValid = (m : ℕ) (args : List Value) (rs : List Reply) → m < r.methods → IsEntry p m args → StaysValid p k ms g r (start p k m args rs)
