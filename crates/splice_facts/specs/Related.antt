-- Which states of the run with contracts and of the plain run of the written program go together, and what a state has laid by.
use Rattle.std.specs.Prelude.{◌≡◌, ℕ, suc, ◌+◌, ◌*◌, ◌<◌, ◌≤◌, Bool, true, false, List, [], ◌∷◌, length, Option, Some, None, option_and_then, IsTrue, is_some, map, filter}
use Rattle.cil_model.specs.declared.ty.Ty.{Ty, out-Ty}
use Rattle.cil_model.specs.declared.value.Value.{Value, Obj}
use Rattle.cil_model.specs.declared.program.Program.{Program}
use Rattle.cil_model.specs.declared.program.MethodDesc.{MethodDesc}
use Rattle.cil_model.specs.declared.contract.Contracts.{Contracts}
use Rattle.cil_model.specs.declared.contract.Group.{Group}
use Rattle.cil_model.specs.declared.contract.Group.TheVariants as group
use Rattle.cil_model.specs.NoContracts.{no_contracts}
use Rattle.cil_semantics.specs.declared.state.Cell.{Cell}
use Rattle.cil_semantics.specs.Tokens.{Here, ref_type, local_tys, meaning_here, constrained_here}
use Rattle.cil_model.specs.declared.program.Meaning.{Meaning}
use Rattle.cil_model.specs.declared.program.Meaning.TheVariants.{OfType, OfField, OfMethod}
use Rattle.cil_semantics.specs.declared.state.World.{World}
use Rattle.cil_semantics.specs.declared.state.Statics.{Statics}
use Rattle.cil_semantics.specs.declared.state.ProgramPoint.{ProgramPoint}
use Rattle.cil_semantics.specs.declared.state.ProgramPoint.TheVariants.{LeadIn, InGroup, Rest}
use Rattle.cil_semantics.specs.declared.state.Cause.{Cause}
use Rattle.cil_semantics.specs.declared.state.Cause.TheVariants.{Caught, Unwinding, Leaving}
use Rattle.cil_semantics.specs.declared.state.Handling.{Handling}
use Rattle.cil_semantics.specs.declared.state.Frame.{Frame}
use Rattle.cil_semantics.specs.State.{State, Next, Running, unrecorded}
use Rattle.cil_semantics.specs.declared.state.Continuation.{Continuation}
use Rattle.cil_semantics.specs.declared.state.Continuation.TheVariants.{Push, PushObject, PushStruct, ThrowObject, BeginCallee, UseField, TryNext}
use Rattle.cil_semantics.specs.Contracted.{Piece, Plan, effective_of}
use Rattle.cil_semantics.specs.Unwind.{body_of, plan_at, piece_at, here_of, moved_to, next_place, unwind}
use Rattle.cil_semantics.specs.Core.{object_ty}
use Rattle.cil_semantics.specs.Lookups.{method_of, in_set, is_sub, args_of, base_of}
use Rattle.cil_semantics.specs.Places.{storage, is_reference}
use Rattle.cil_semantics.specs.Dispatch.{Seen, methods_of}
use Rattle.cil_semantics.specs.Calls.{body_seen}
use Rattle.cil_semantics.specs.Frames.{clause_tys, captured_tys, first_place}
use Rattle.cil_semantics.specs.Returns.{returned}
use Rattle.cil_semantics.specs.Checks.{AddedNumbers, Failure}
use Rattle.cil_model.specs.declared.contract.ClauseKind.TheVariants as kind
use Rattle.machine_laws.specs.Same.{most_clauses}
use Rattle.cil_model.specs.declared.body.Instr.{Instr}
use Rattle.cil_semantics.specs.Acts.{Act, Stuck, GoOn, Jump, Raise, Throw, Rethrow, Leave, EndHandler, Return, Load, Store, Copy, UseStatic, CallMember, CallVirtual, LoadVirtualFunction}
use Rattle.cil_semantics.specs.Acts as Acts
use Rattle.il_opcodes.specs.Opcodes.{class_of}
use Rattle.il_opcodes.specs.declared.class.Class.TheVariants as class
use Rattle.cil_semantics.specs.Instructions.{act}
use Rattle.cil_semantics.specs.Unwind.{hasnt_begun}
use Rattle.cil_semantics.specs.Frames.{enter}
use Rattle.cil_semantics.specs.Machine.{step, step_frames, run_plain}
use Rattle.splice_facts.specs.Acting.{WellFormedAct}
use Rattle.splice_facts.specs.Bodies.{with_methods, SameMethods}
use Rattle.splice_facts.specs.Grown.{beside}
use Rattle.machine_laws.specs.Answers.{Each, is_below}
use Rattle.splice_facts.specs.WellFormed.{Bounds, NoneVoid, WellFormedLocal, WellFormedWorld, WellFormedContinuation}
use Rattle.splice_facts.specs.Comes.{Reaches, Answers}
use Rattle.splice_facts.specs.Exceptions.{IsObject, ThrowsObject}
use Rattle.splice_facts.specs.Input.{InputFacts, StackHeights, CallsMember, NamesGiving, result_count, access_count, is_group}
use Rattle.splice_facts.specs.Layout.{Depths, Marks, Keeps, IsHere, CanArrive, Onward, fetch}
use Rattle.splice_facts.specs.Spliced.{Current, Throws_next, Checked, Beside, twin, FitsGroup, Spliced, cost, IsPlainAt}

-- ---- the whole written program

-- A class of the input, with constructors of the input: so is the E of a Requires<E> of the set, which is an exception (ECMA-335, II.22.37).
pub record IsOwnClass (p : Program) (types methods : ℕ) (t : Ty) : Type 0 where
  pub below : IsTrue (is_below types t)
  pub reference : is_reference (storage p t) ≡ true
  pub members : Each (λ c. c < methods) (methods_of p t)

-- A token of the input's code names what is of the input, with no void among type arguments (ECMA-335, II.23.2.14).
abbrev pub NamesInput : Program → (types methods : ℕ) → Option Meaning → Type 0
NamesInput p types methods (Some (OfType t)) = NoneVoid p (args_of t)
NamesInput p types methods (Some (OfField owner field)) = IsTrue (is_below types owner) × NoneVoid p (args_of owner)
NamesInput p types methods (Some (OfMethod owner method args)) = (method < methods) × IsTrue (is_below types owner) × NoneVoid p (args_of owner) × NoneVoid p args
NamesInput p types methods m = Unit {0}

-- p is the input with the tables of the output: with the types, fields, methods and tokens that were appended, and with its own bodies.
pub record Rewritten (p : Program) (k : Contracts) (ms : List MethodDesc) (g : AddedNumbers) : Type 0 where
  -- how many types and methods the input has
  pub types : ℕ
  pub methods : ℕ
  pub same_methods : SameMethods p ms
  pub depths : Depths types g
  pub marks : ℕ → Marks
  -- what the rules give of the input's bodies
  pub input : (m : ℕ) → m < methods → InputFacts p k g m (plan_at k p m)
  pub heights : (m : ℕ) (plan : Plan) → m < methods → plan_at k p m ≡ Some plan → StackHeights p k g m plan
  pub bodies : (m : ℕ) → m < methods → Spliced p k (with_methods p ms) g types depths m (plan_at k p m) (marks m)
  pub appended : (m : ℕ) → methods ≤ m → effective_of k p m ≡ None
  pub guard : k.settings.guard ≤ 100
  -- each type is under System.Object, since bases form no cycle (ECMA-335, II.10.1.3)
  pub rooted : (t : Ty) → is_sub p t object_ty ≡ true
  -- a type of the input has methods of the input
  pub owned : (t : Ty) (w : World) (m : ℕ) → IsTrue (is_below types t) → Rattle.cil_semantics.specs.Frames.initializer p w t ≡ Rattle.cil_semantics.specs.Frames.ToRun m → m < methods
  -- the exception that a failed Requires<E> of the set makes is of the input, and no type argument of it is void where none of the frame's is
  pub exceptions : (m : ℕ) (plan : Plan) (gr : Group) (j : ℕ) (x : Piece) (here : Here) (t : Ty) (d : ℕ × List Ty) → m < methods → here.method ≡ m → plan_at k p m ≡ Some plan → piece_at (Some plan) gr j ≡ Some x → x.clause.kind ≡ kind.RequiresOf
      → option_and_then (ref_type p here) x.clause.exception ≡ Some t → in_set (out-Ty t) ≡ Some d → IsOwnClass p types methods t × (NoneVoid p here.type_args → NoneVoid p here.method_args → NoneVoid p (args_of t))
  -- what a token names for type arguments of which none is void
  pub names : (m : ℕ) (at : ProgramPoint) (i : Instr) (here : Here) → m < methods → here.method ≡ m → NoneVoid p here.type_args → NoneVoid p here.method_args → IsHere (plan_at k p m) at → fetch p k g (plan_at k p m) m at ≡ Some i → NamesInput p types methods (meaning_here p here i)
  -- and what `constrained.` names
  pub constrains : (m : ℕ) (at : ProgramPoint) (i : Instr) (here : Here) (t : Ty) → m < methods → here.method ≡ m → NoneVoid p here.type_args → NoneVoid p here.method_args → IsHere (plan_at k p m) at → fetch p k g (plan_at k p m) m at ≡ Some i → constrained_here p here i ≡ Some t → NoneVoid p (args_of t)
  -- the base of a type names no void among its arguments
  pub bases : (t u : Ty) → NoneVoid p (args_of t) → base_of p t ≡ Some u → NoneVoid p (args_of u)
  -- a call that a token names of a core member describes it with the result that it has (ECMA-335, Partition IV)
  pub gives : (m : ℕ) (at : ProgramPoint) (i : Instr) (here : Here) → m < methods → here.method ≡ m → IsHere (plan_at k p m) at → fetch p k g (plan_at k p m) m at ≡ Some i → CallsMember (class_of i.op) → NamesGiving p (meaning_here p here i)
  -- a method of the input belongs to a type of the input
  pub members : (m : ℕ) → m < methods → (method_of p m).owner < types
  -- what was appended overrides and implements nothing: the body that a method of the input has for a type is one of the input
  pub found : (t : Ty) (s x : Seen) → s.1 < methods → IsTrue (is_below types s.0) → body_seen p t s ≡ Some x → (x.1 < methods) × IsTrue (is_below types x.0)

-- worlds that are alike where runs are over: but for the statics of what was appended
pub record AlikeWorlds (n : ℕ) (w w' : World) : Type 0 where
  pub heap : w.heap ≡ w'.heap
  pub statics : filter (λ (s : Statics). is_below n s.owner) w.statics ≡ filter (λ (s : Statics). is_below n s.owner) w'.statics
  pub trace : w.trace ≡ w'.trace

-- how many of the frames stand in a group
abbrev pub in_group : ProgramPoint → ℕ
in_group (LeadIn q) = 0
in_group (InGroup gr j q) = 1
in_group (Rest q) = 0

abbrev pub count_groups : List Frame → ℕ
count_groups [] = 0
count_groups (f ∷ fs) = in_group f.at + count_groups fs

abbrev pub is_in : ProgramPoint → Bool
is_in (LeadIn q) = false
is_in (InGroup gr j q) = true
is_in (Rest q) = false

abbrev pub moved_cause : (ℕ → ℕ) → Cause → Cause
moved_cause to (Caught x) = Caught x
moved_cause to (Unwinding x) = Unwinding x
moved_cause to (Leaving t) = Leaving (to t)

abbrev pub LeadsTo : Option Plan → ProgramPoint → Cause → Type 0
LeadsTo plan at (Leaving t) = CanArrive plan (moved_to t at)
LeadsTo plan at _ = Unit {0}

-- a handler that runs, and its twin
pub record HandlingPair (plan : Option Plan) (m : Marks) (rows : ℕ) (at : ProgramPoint) (h h' : Handling) : Type 0 where
  pub handler : h'.handler ≡ h.handler
  pub next : h'.next ≡ h.next
  pub cause : h'.cause ≡ moved_cause (λ t. m.places (moved_to t at)) h.cause
  pub here : IsHere plan (moved_to h.place at)
  pub belongs : IsTrue (m.belongs (moved_to h.place at) h'.place)
  pub leads : LeadsTo plan at h.cause
  pub low : h.handler < rows
  -- a search goes on behind the row of the handler
  pub behind : h.next ≤ rows

abbrev pub HandlingPairs : Option Plan → Marks → ℕ → ProgramPoint → List Handling → List Handling → Type 0
HandlingPairs plan m rows at [] [] = Unit {0}
HandlingPairs plan m rows at (h ∷ hs) (h' ∷ hs') = HandlingPair plan m rows at h h' × HandlingPairs plan m rows at hs hs'
HandlingPairs plan m rows at hs hs' = ⊥

-- no handler runs in a piece of a group
abbrev pub Waits : Option Plan → Marks → ℕ → ProgramPoint → List Handling → List Handling → Type 0
Waits plan m rows (LeadIn q) hs hs' = HandlingPairs plan m rows (LeadIn q) hs hs'
Waits plan m rows (InGroup gr j q) hs hs' = (hs ≡ []) × (hs' ≡ [])
Waits plan m rows (Rest q) hs hs' = HandlingPairs plan m rows (Rest q) hs hs'

-- what a frame has of an exception and of a result goes by the group in which it stands
abbrev pub FitsAt : (Group → Option ℕ → Type 0) → ProgramPoint → Option ℕ → Type 0
FitsAt fits (InGroup gr j q) thrown = fits gr thrown
FitsAt fits (LeadIn q) thrown = fits group.Entry thrown
FitsAt fits (Rest q) thrown = fits group.Entry thrown

abbrev pub HasResult : Program → Frame → ProgramPoint → Type 0
HasResult p f (InGroup group.Exit j q) = returned p f [] ≡ None → IsTrue (is_some f.local.result)
HasResult p f at = Unit {0}

module _ (p : Program) (k : Contracts) (ms : List MethodDesc) (g : AddedNumbers) (r : Rewritten p k ms g) where
  abbrev pub written : Program
  written = with_methods p ms

  abbrev pub plan_in : ℕ → Option Plan
  plan_in m = plan_at k p m

  abbrev pub marks_in : ℕ → Marks
  marks_in m = r.marks m

  -- as many locals as the method's and its clauses', and as many captured values as its old ranges
  abbrev pub bounds : Bounds
  bounds =
      let here : ℕ → Here = λ m. record { number = 0; method = m; type_args = []; method_args = [] } in
      record { program = p; width = λ m. length (local_tys p (here m) (body_of p m).locals) + length (clause_tys p (here m) (plan_at k p m)); types = r.types; methods = r.methods }

  -- A frame and its twin, which stands at a new place.
  pub record FramePair (q : ℕ) (f : Frame) (fs : List Frame) (f' : Frame) : Type 0 where
    pub extra : List Cell
    pub same : f' ≡ twin p k written g r.types r.depths f f.local extra q f'.handling f'.continuation
    pub keeps : Keeps (marks_in f.method) (here_of f fs) f.thrown f.local extra
    pub waits : Waits (plan_in f.method) (marks_in f.method) (length (body_of p f.method).regions) f.at f.handling f'.handling

  -- backs that are the same in both runs and push a value or use it
  abbrev pub IsCommon : Continuation → Type 0
  IsCommon Push = Unit {0}
  IsCommon (PushObject v) = Unit {0}
  IsCommon PushStruct = Unit {0}
  IsCommon (ThrowObject x) = ⊥
  IsCommon BeginCallee = ⊥
  IsCommon (UseField a) = Unit {0}
  IsCommon (TryNext exists target left) = Unit {0}

  -- A place where the plain run makes the exception of Requires<E>: what comes next there throws it, from a place that belongs to the same call.
  pub record Throws_here (f : Frame) (q x : ℕ) : Type 0 where
    pub belongs : IsTrue ((marks_in f.method).belongs f.at q)
    pub in_group : IsTrue (is_in f.at)
    pub next : Throws_next p k written g r.types r.depths (marks_in f.method) f q x

  -- A check of Requires<E> in a clause has such a place.
  abbrev pub SeamsThrow : Type 0
  SeamsThrow =
      (f : Frame) (fs fs' : List Frame) (w : World) (ex : List Cell) (ss : List Statics) (b : Continuation) (hs : List Handling) (x : Failure) (holds : Bool) (rest : List Value) (on : ℕ)
      (c : Checked p k written g r.types r.depths (marks_in f.method) f fs fs' w ex ss b hs x holds rest on) → IsTrue (is_in f.at) → x.kind ≡ kind.RequiresOf → (y : ℕ) → Throws_here f c.maker y

  -- The frames below one that has these backs: they wait for its value, have not begun, or wait to throw what it made.
  pub data Under : Continuation → Continuation → List Frame → List Frame → Type 0 where
    bottom : (b : Continuation) → IsCommon b → Under b b [] []
    waits : (b : Continuation) (f f' : Frame) (fs fs' : List Frame) → IsCommon b → FramePair ((marks_in f.method).places f.at) f fs f' → IsHere (plan_in f.method) f.at → Onward (plan_in f.method) (marks_in f.method).places f.at (next_place f.at) → Under f.continuation f'.continuation fs fs' → Under b b (f ∷ fs) (f' ∷ fs')
    begins : (f f' : Frame) (fs fs' : List Frame) → FramePair 0 f fs f' → f.at ≡ first_place (plan_in f.method) → Rattle.cil_semantics.specs.Unwind.hasnt_begun f.continuation ≡ false → Rattle.cil_semantics.specs.Unwind.hasnt_begun f'.continuation ≡ false → Under f.continuation f'.continuation fs fs' → Under BeginCallee BeginCallee (f ∷ fs) (f' ∷ fs')
    throws : (x q : ℕ) (f f' : Frame) (fs fs' : List Frame) → FramePair q f fs f' → IsHere (plan_in f.method) f.at → Throws_here f q x → Under f.continuation f'.continuation fs fs' → Under (ThrowObject x) (PushObject (Obj x)) (f ∷ fs) (f' ∷ fs')

  pub data Frames : List Frame → List Frame → Type 0 where
    top : (f f' : Frame) (fs fs' : List Frame) → FramePair ((marks_in f.method).places f.at) f fs f' → IsHere (plan_in f.method) f.at → Under f.continuation f'.continuation fs fs' → Frames (f ∷ fs) (f' ∷ fs')

  -- R
  pub record Related (s s' : State) : Type 0 where
    pub frames : Frames s.frames s'.frames
    pub statics : List Statics
    pub alike : Beside p k written g r.types r.depths s.world statics
    pub world : s'.world ≡ beside statics s.world

  -- laid by for the handlers, the wrapper and the group's end that an exception passes in each frame
  abbrev pub laid_by : State → ℕ
  laid_by s = 18 * (1 + most_clauses k p 0 p.methods) * length s.frames

  -- ---- what holds of the run with contracts alone

  -- what holds of a frame whatever stands in its places: a method of the input, as many locals as it has, and an exception where a group looks at it
  pub record Standing (f : Frame) (fs : List Frame) : Type 0 where
    pub old : f.method < r.methods
    pub wide : length f.local.locals ≡ bounds.width f.method
    pub fits : FitsAt (FitsGroup p k written g r.types r.depths) f.at f.thrown
    pub initializes : (t : Ty) → f.initializes ≡ Some t → IsTrue (is_below r.types t)

  abbrev pub AllStand : List Frame → Type 0
  AllStand [] = Unit {0}
  AllStand (f ∷ fs) = Standing f fs × AllStand fs

  -- where a `leave` leads there is nothing on the stack (ECMA-335, III.3.46)
  abbrev pub EmptyAt : ℕ → ProgramPoint → ℕ → Type 0
  EmptyAt m at t = (plan : Plan) (old : m < r.methods) (e : plan_at k p m ≡ Some plan) → (r.heights m plan old e).height (moved_to t at) ≡ Some 0

  abbrev pub CauseLeads : ℕ → ProgramPoint → Cause → Type 0
  CauseLeads m at (Leaving t) = EmptyAt m at t
  CauseLeads m at c = Unit {0}

  -- handlers that run were begun from places that are there, and lead on so
  abbrev pub HandlersLead : ℕ → ProgramPoint → List Handling → Type 0
  HandlersLead m at [] = Unit {0}
  HandlersLead m at (h ∷ hs) = (IsHere (plan_in m) (moved_to h.place at) × CauseLeads m at h.cause) × HandlersLead m at hs

  pub record ValidFrame (f : Frame) (fs : List Frame) : Type 0 where
    pub stands : Standing f fs
    pub captured : map (λ (c : Cell). c.ty) f.local.captured ≡ captured_tys p (here_of f fs) (plan_in f.method)
    pub has_result : HasResult p f f.at
    pub fine : WellFormedLocal bounds f.local
    pub fine_back : WellFormedContinuation bounds f.continuation
    -- only handlers round the place are pending
    pub current : is_group f.at ≡ false → Current p k written g r.types r.depths f.method f.at f.handling
    pub leads : is_group f.at ≡ false → HandlersLead f.method f.at f.handling

  -- how many values a frame that ends pushes below, by what happens then
  abbrev pub pushes : ℕ → Continuation → ℕ
  pushes m Push = result_count p m
  pushes m (PushObject v) = 1
  pushes m PushStruct = 1
  pushes m (ThrowObject x) = 0
  pushes m BeginCallee = 0
  pushes m (UseField a) = access_count a
  pushes m (TryNext exists target left) = 1

  -- where a frame goes on when the one above it has ended: it begins, or stands behind its call
  abbrev pub goes_on_at : Continuation → ProgramPoint → ProgramPoint
  goes_on_at BeginCallee at = at
  goes_on_at _ at = next_place at

  -- The stack of the topmost frame has the height of its place, that of a waiting one with what will be pushed the height of the place where it goes on.
  abbrev pub HasHeight : Frame → ProgramPoint → ℕ → Type 0
  HasHeight f at n = (plan : Plan) (old : f.method < r.methods) (e : plan_at k p f.method ≡ Some plan) → is_group f.at ≡ false → Some (length f.local.stack + n) ≡ (r.heights f.method plan old e).height at

  abbrev pub HeightsBelow : Frame → List Frame → Type 0
  HeightsBelow f [] = Unit {0}
  HeightsBelow f (h ∷ fs) = HasHeight h (goes_on_at f.continuation h.at) (pushes f.method f.continuation) × HeightsBelow h fs

  abbrev pub Heights : List Frame → Type 0
  Heights [] = Unit {0}
  Heights (f ∷ fs) = HasHeight f f.at 0 × HeightsBelow f fs

  abbrev pub ValidFrames : List Frame → Type 0
  ValidFrames [] = Unit {0}
  ValidFrames (f ∷ fs) = ValidFrame f fs × ValidFrames fs

  -- The depth counts the frames in groups, so it is never more than one above the guard.
  pub record Valid (s : State) : Type 0 where
    pub frames : ValidFrames s.frames
    pub heights : Heights s.frames
    pub world : WellFormedWorld bounds s.world
    pub depth : s.world.depth ≡ count_groups s.frames
    pub deep : s.world.depth ≤ suc k.settings.guard

  -- the topmost frames of both runs, over others
  pub record TopPair (f f' : Frame) (fs fs' : List Frame) (w : World) (ss : List Statics) : Type 0 where
    pub pair : FramePair ((marks_in f.method).places f.at) f fs f'
    pub here : IsHere (plan_in f.method) f.at
    pub under : Under f.continuation f'.continuation fs fs'
    pub stands : Standing f fs
    pub others : AllStand fs
    pub alike : Beside p k written g r.types r.depths w ss
    pub deep : w.depth ≤ suc k.settings.guard
    pub count : w.depth ≡ in_group f.at + count_groups fs

  -- where an act may lead that calls nothing
  abbrev pub is_no_group : ProgramPoint → Type 0
  is_no_group (LeadIn q) = Unit {0}
  is_no_group (InGroup gr j q) = ⊥
  is_no_group (Rest q) = Unit {0}

  abbrev pub ActLeads : Frame → Act → Type 0
  ActLeads f (GoOn made l) = Onward (plan_in f.method) (marks_in f.method).places f.at (next_place f.at)
  ActLeads f (Jump t l) = CanArrive (plan_in f.method) (moved_to t f.at)
  ActLeads f (Leave t) = is_no_group f.at × CanArrive (plan_in f.method) (moved_to t f.at)
  ActLeads f (Load q h l) = Onward (plan_in f.method) (marks_in f.method).places f.at (next_place f.at)
  ActLeads f (Store q v l) = Onward (plan_in f.method) (marks_in f.method).places f.at (next_place f.at)
  ActLeads f (Copy a b h l) = Onward (plan_in f.method) (marks_in f.method).places f.at (next_place f.at)
  ActLeads f (UseStatic t a l) = Onward (plan_in f.method) (marks_in f.method).places f.at (next_place f.at)
  ActLeads f (CallMember c l) = ⊥
  ActLeads f (CallVirtual c l) = ⊥
  ActLeads f (Acts.NewObject c l) = ⊥
  ActLeads f (LoadVirtualFunction c l) = ⊥
  ActLeads f Return = ⊥
  ActLeads f a = Unit {0}

  -- ---- what is proved

  abbrev pub per_frame : ℕ → ℕ
  per_frame n = 18 * (1 + most_clauses k p 0 p.methods) * n

  -- the first run has come to x, and the plain run from y to what goes with it, with so many steps and so much laid by
  abbrev pub ReachesIn : ℕ → Next → Next → Type 0
  ReachesIn n x y = Reaches written (AlikeWorlds r.types) Related laid_by n x y

  -- the same in at least one step
  abbrev pub AnswersIn : ℕ → Next → Next → Type 0
  AnswersIn n x y = Answers written (AlikeWorlds r.types) Related laid_by n x y

  abbrev pub Unwinds_alike : Type 0
  Unwinds_alike =
      (b b' : Continuation) (fs fs' : List Frame) → Under b b' fs fs' → AllStand fs → (w : World) (ss : List Statics) (x : ℕ) → Beside p k written g r.types r.depths w ss → IsObject (length w.heap) x → w.depth ≡ count_groups fs → w.depth ≤ suc k.settings.guard
      → ReachesIn (2 * cost k p + per_frame (length fs)) (unwind p k (hasnt_begun b) fs w x) (unwind written no_contracts (hasnt_begun b') fs' (beside ss w) x)

  abbrev pub Enters_alike : Type 0
  Enters_alike =
      (owner : Ty) (m : ℕ) (args : List Ty) (values : List Value) (b b' : Continuation) (fs fs' : List Frame) (w : World) (ss : List Statics) → m < r.methods → IsTrue (is_below r.types owner) → Under b b' fs fs' → hasnt_begun b ≡ false → hasnt_begun b' ≡ false → AllStand fs → Beside p k written g r.types r.depths w ss → w.depth ≤ suc k.settings.guard → w.depth ≡ count_groups fs
      → ReachesIn (cost k p + per_frame (suc (suc (length fs)))) (enter p k owner m args values b fs w) (enter written no_contracts owner m args values b' fs' (beside ss w))

  abbrev pub Plain_steps_answered : Type 0
  Plain_steps_answered =
      (f f' : Frame) (fs fs' : List Frame) (w : World) (ss : List Statics) (t : TopPair f f' fs fs' (unrecorded w) ss) (i : Instr) → fetch p k g (plan_in f.method) f.method f.at ≡ Some i → IsPlainAt p k written g r.types r.depths f.method (plan_in f.method) f.at i
      → WellFormedAct bounds f.local (act p (here_of f fs) i (unrecorded w) f.local) → ActLeads f (act p (here_of f fs) i (unrecorded w) f.local) → ThrowsObject (length w.heap) f.handling (act p (here_of f fs) i (unrecorded w) f.local) → step_frames p k g (f ∷ fs) (unrecorded w) ≡ run_plain p k g i f fs (unrecorded w)
      → AnswersIn (suc (2 * cost k p + per_frame (suc (suc (length fs))))) (step p k g (record { frames = f ∷ fs; world = w })) (Running (record { frames = f' ∷ fs'; world = beside ss w }))
