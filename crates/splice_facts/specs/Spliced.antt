-- What the simulation asks of a written program: the contract between the splice, which writes bodies, and the proof on runs.
use Rattle.std.specs.Prelude.{◌≡◌, ◌≢◌, ℕ, zero, suc, ◌+◌, ◌-◌, ◌*◌, ◌&&◌, ◌||◌, nat_le, nat_lt, ◌<◌, ◌≤◌, Bool, true, false, ◌==◌, not, if◌then◌else◌, List, [], ◌∷◌, ◌++◌, length, map, filter, take, slice_get, Option, Some, None, option_map, option_and_then, IsTrue, IsFalse, pos, is_some}
use Rattle.cil_base.specs.declared.token.Token.{Token}
use Rattle.cil_model.specs.declared.ty.Ty.{Known, Prim}
use Rattle.cil_model.specs.declared.value.Value.{Value, out-Value, Obj}
use Rattle.cil_model.specs.declared.body.Instr.{Instr}
use Rattle.cil_model.specs.declared.body.Region.{Region}
use Rattle.cil_model.specs.declared.program.Program.{Program}
use Rattle.cil_model.specs.declared.program.Meaning.{Meaning}
use Rattle.cil_model.specs.declared.program.Meaning.TheVariants.{OfMethod}
use Rattle.cil_model.specs.declared.contract.Contracts.{Contracts}
use Rattle.cil_model.specs.declared.contract.Old.{Old}
use Rattle.cil_model.specs.declared.contract.ClauseKind.{ClauseKind}
use Rattle.cil_model.specs.declared.contract.ClauseKind.TheVariants as kind
use Rattle.cil_model.specs.declared.contract.Group.{Group}
use Rattle.cil_model.specs.declared.contract.Group.TheVariants as group
use Rattle.cil_model.specs.NoContracts.{no_contracts}
use Rattle.cil_semantics.specs.Words.{maybe}
use Rattle.cil_semantics.specs.Core.{Name}
use Rattle.cil_semantics.specs.declared.state.Cell.{Cell}
use Rattle.cil_semantics.specs.Places.{storage, set_cell, seen_as}
use Rattle.cil_semantics.specs.State as state
use Rattle.cil_semantics.specs.declared.state.Local.{Local as LocalState}
use Rattle.cil_semantics.specs.declared.state.World.{World}
use Rattle.cil_semantics.specs.declared.state.Statics.{Statics}
use Rattle.cil_semantics.specs.declared.state.ProgramPoint.{ProgramPoint}
use Rattle.cil_semantics.specs.declared.state.ProgramPoint.TheVariants.{LeadIn, InGroup, Rest}
use Rattle.cil_semantics.specs.declared.state.Handling.{Handling}
use Rattle.cil_semantics.specs.declared.state.Frame.{Frame}
use Rattle.cil_semantics.specs.State.{State, Next, Running, with_stack, pushed, next_object, with_object}
use Rattle.cil_semantics.specs.declared.state.Continuation.{Continuation}
use Rattle.il_opcodes.specs.declared.class.Class.TheVariants as class
use Rattle.il_opcodes.specs.Opcodes.{class_of}
use Rattle.cil_semantics.specs.Tokens.{Here, ref_type, local_tys, meaning_here}
use Rattle.cil_semantics.specs.Contracted.{Piece, Plan, rank, runs_at, pieces}
use Rattle.cil_semantics.specs.Unwind.{body_of, plan_at, piece_at, here_of, place_in, moved_to, next_place, in_try, in_handler, handled_at, next_piece, Found, NoHandler, CatchHandler, CleanupHandler, search_from, searched, left_from, set_statics, find_statics, ends_frame, throws_in, unwind, drops, Below}
use Rattle.cil_semantics.specs.Frames.{stuck, if_there, read, clause_tys, captured_tys, first_place}
use Rattle.cil_semantics.specs.Returns.{return_with, returned, push_below}
use Rattle.cil_semantics.specs.Calls.{call_member, is_core_exception, pointed}
use Rattle.cil_semantics.specs.ContractCalls.{contract_call, has_message, is_check, count_checks}
use Rattle.cil_semantics.specs.declared.contract_call.ContractCall.{ContractCall}
use Rattle.cil_semantics.specs.declared.contract_call.ContractCall.TheVariants.{EndsClause, EndsBlock, Abbreviates, GivesResult, ReadsArgument, TakesOld, ChecksHere, NoContractCall}
use Rattle.cil_semantics.specs.Checks.{AddedNumbers, Failure, Condition, condition_in, dropped, recalled, inline_label, Sequel, failing, inline_number}
use Rattle.machine_laws.specs.Same.{most_clauses}
use Rattle.splice_facts.specs.Grown.{grow, beside, IsCopy}
use Rattle.machine_laws.specs.Answers.{is_below}
use Rattle.splice_facts.specs.Comes.{Comes, Goes}
use Rattle.splice_facts.specs.Exceptions.{IsException, ExceptionIf, FailuresThere}
use Rattle.splice_facts.specs.Input.{IsFound, is_group, top_of, ReturnsAsNamed}
use Rattle.splice_facts.specs.Layout.{fetch, IsHere, CanArrive, Onward, never_falls, Depths, HasDepth, Marks, Keeps}

-- a check: a condition that doesn't hold is reported, and what follows goes by the reply
abbrev pub checking : Program → AddedNumbers → Bool → Failure → Sequel → Bool → List Frame → World → Next
checking p g throwing x sequel holds fs w = if holds then sequel.passes w else failing p g throwing x sequel fs w

-- ---- one body

abbrev pub cost : Contracts → Program → ℕ
cost k p = 6 * (1 + most_clauses k p 0 p.methods)

-- A group begins in as many, but that of EnsuresOnThrow first asks of each clause whether the exception fits.
abbrev pub opening_cost : Contracts → Program → Group → ℕ
opening_cost k p group.Throw = 8 * (1 + most_clauses k p 0 p.methods)
opening_cost k p gr = cost k p

-- the handler of the wrapper keeps the exception and leaves
abbrev pub wrapper_cost : Contracts → Program → ℕ
wrapper_cost k p = 4 * (1 + most_clauses k p 0 p.methods)

-- so many steps a failure may take before the run of the input goes on
abbrev pub failure_cost : Contracts → Program → ℕ
failure_cost k p = 20 * (1 + most_clauses k p 0 p.methods)

module _ (p : Program) (k : Contracts) (p' : Program) (g : AddedNumbers) (n : ℕ) (depths : Depths n g) where
  -- the statics of the plain run: those of the input, and the depth
  pub record Beside (w : World) (ss : List Statics) : Type 0 where
    pub statics : filter (λ (s : Statics). is_below n s.owner) ss ≡ filter (λ (s : Statics). is_below n s.owner) w.statics
    pub depth : HasDepth w.depth (find_statics (Known depths.owner) ss)
    -- the exception's class has none, so no initializer of it has failed
    pub bare : find_statics (Known g.exception) ss ≡ None
    -- an initializer of the input that failed keeps an object
    pub failures : FailuresThere (length w.heap) w.statics

  -- the twin of a frame at a new place; what the frame has of an exception or a result is in its locals
  abbrev pub twin : Frame → LocalState → List Cell → ℕ → List Handling → Continuation → Frame
  twin f l ex q hs b = record { method = f.method; type_args = f.type_args; method_args = f.method_args; local = grow ex l; at = Rest q; handling = hs; thrown = None; continuation = b; initializes = f.initializes }

  -- the plain run stands at a new place, with no handler that runs
  abbrev pub stands : Frame → LocalState → List Cell → ℕ → Continuation → List Frame → World → List Statics → Next
  stands f l ex q b fs' w ss = Running (record { frames = twin f l ex q [] b ∷ fs'; world = beside ss w })

  -- an exception leaves the frame
  abbrev pub leaves_with : Frame → Continuation → List Frame → World → List Statics → ℕ → Next
  leaves_with f b fs' w ss x = ends_frame p' f.initializes b (beside ss w) x (λ skip v y. unwind p' no_contracts skip fs' v y)

  -- The plain run comes to a new place in so many steps; the locals behind the captured values may have changed.
  pub record Arrives (m : Marks) (c : ℕ) (from : Next) (f : Frame) (fs : List Frame) (l : LocalState) (q : ℕ) (b : Continuation) (fs' : List Frame) (w : World) : Type 0 where
    pub extra : List Cell
    pub keeps : Keeps m (here_of f fs) f.thrown l extra
    pub statics : List Statics
    pub beside : Beside w statics
    pub comes : Comes p' c from (stands f l extra q b fs' w statics)

  -- the same in at least one step
  pub record Departs (m : Marks) (c : ℕ) (from : Next) (f : Frame) (fs : List Frame) (l : LocalState) (q : ℕ) (b : Continuation) (fs' : List Frame) (w : World) : Type 0 where
    pub arrives : Arrives m c from f fs l q b fs' w
    pub moves : 1 ≤ (arrives.comes).steps

  -- where the group has a piece that takes part, its beginning, one deeper; else what is said of the group's end
  abbrev pub OpensAt : Marks → Plan → Group → ℕ → Next → Frame → List Frame → LocalState → Continuation → List Frame → World → Option (ℕ × Piece) → Bool → Type 0
  OpensAt m plan gr c from f fs l b fs' w (Some x) true = Arrives m c from f fs (with_stack l []) (m.places (InGroup gr x.0 x.1.from)) b fs' (state.raised w)
  OpensAt m plan gr c from f fs l b fs' w o r = Arrives m c from f fs (with_stack l []) (m.out gr) b fs' w

  -- the same for the entry group, which begins with the stack that is there
  abbrev pub EntersAt : Marks → Plan → ℕ → Next → Frame → List Frame → LocalState → Continuation → List Frame → World → Option (ℕ × Piece) → Bool → Type 0
  EntersAt m plan c from f fs l b fs' w (Some x) true = Arrives m c from f fs l (m.places (InGroup group.Entry x.0 x.1.from)) b fs' (state.raised w)
  EntersAt m plan c from f fs l b fs' w o r = Arrives m c from f fs l (m.out group.Entry) b fs' w

  abbrev pub ContinuesAt : Marks → Plan → Group → ℕ → Next → Frame → List Frame → LocalState → Continuation → List Frame → World → Option (ℕ × Piece) → Type 0
  ContinuesAt m plan gr c from f fs l b fs' w (Some x) = Arrives m c from f fs (with_stack l []) (m.places (InGroup gr x.0 x.1.from)) b fs' w
  ContinuesAt m plan gr c from f fs l b fs' w None = Arrives m c from f fs (with_stack l []) (m.out gr) b fs' (state.lowered w)

  -- ---- what a search answers

  abbrev pub moved_found : (ℕ → ℕ) → Found → Found
  moved_found to NoHandler = NoHandler
  moved_found to (CatchHandler i t) = CatchHandler i (to t)
  moved_found to (CleanupHandler i t) = CleanupHandler i (to t)

  abbrev pub goes_to : ℕ → ℕ → ℕ × ℕ
  goes_to i t = (i, t)

  -- an exception is looked at in the group of EnsuresOnThrow alone
  abbrev pub FitsGroup : Group → Option ℕ → Type 0
  FitsGroup group.Throw None = ⊥
  FitsGroup group.Throw (Some x) = Unit {0}
  FitsGroup gr None = Unit {0}
  FitsGroup gr (Some x) = ⊥

  -- ---- contract calls and lifted returns, each from the place of its instruction

  abbrev pub clause_failure : Frame → List Frame → Piece → Value → Failure
  clause_failure f fs x user =
      record { kind = x.clause.kind; exception = option_and_then (ref_type p (here_of f fs)) x.clause.exception; home = x.clause.home; user = user; label = x.clause.label }

  -- the two runs have this in common at a place of the frame
  pub record Paired (m : Marks) (f : Frame) (fs fs' : List Frame) (w : World) (ex : List Cell) (ss : List Statics) : Type 0 where
    pub keeps : Keeps m (here_of f fs) f.thrown f.local ex
    pub beside : Beside w ss
    pub numbers : length fs' ≡ length fs
    pub deep : w.depth ≤ suc k.settings.guard

  abbrev pub from_here : Marks → Frame → List Cell → Continuation → List Frame → World → List Statics → List Handling → Next
  from_here m f ex b fs' w ss hs = Running (record { frames = twin f f.local ex (m.places f.at) hs b ∷ fs'; world = beside ss w })

  -- What comes next there throws what was made, from a place that belongs to the same call.
  pub record Throws_next (m : Marks) (f : Frame) (q y : ℕ) : Type 0 where
    pub thrower : ℕ
    pub belongs : IsTrue (m.belongs f.at thrower)
    pub throws : (l : LocalState) (ex : List Cell) (b : Continuation) (fs' : List Frame) (w : World)
        → Comes p' (cost k p) (push_below p' no_contracts (Some (Obj y)) (twin f l ex q [] b ∷ fs') w) (unwind p' no_contracts false (twin f (pushed (Obj y) l) ex thrower [] b ∷ fs') w y)

  -- A check: a false condition is reported; then the run goes on at a place, throws as at the instruction's own place, makes the exception of Requires<E> at another place of it, or is stuck.
  pub record Checked (m : Marks) (f : Frame) (fs fs' : List Frame) (w : World) (ex : List Cell) (ss : List Statics) (b : Continuation) (hs : List Handling) (x : Failure) (holds : Bool) (rest : List Value) (on : ℕ) : Type 0 where
    pub after : List Cell
    pub keeps : Keeps m (here_of f fs) f.thrown f.local after
    pub seam : ℕ
    pub belongs : IsTrue (m.belongs f.at seam)
    -- the newobj of Requires<E>, and what comes behind it
    pub maker : ℕ
    pub maker_belongs : IsTrue (m.belongs f.at maker)
    pub made : x.kind ≡ kind.RequiresOf → (y : ℕ) → Throws_next m f maker y
    pub goes : Goes p' (failure_cost k p) (from_here m f ex b fs' w ss hs)
        (checking p' g k.settings.throwing x
        (record {
          passes = λ v. Rattle.cil_semantics.specs.Unwind.goes_at p' (twin f (with_stack f.local rest) after on hs b) (Rest on) (grow after (with_stack f.local rest)) hs fs' v;
          throws = λ v y. unwind p' no_contracts false (twin f (with_stack f.local rest) after seam hs b ∷ fs') v y;
          makes = λ v ty c values. Rattle.cil_semantics.specs.Calls.make p' no_contracts (Rattle.cil_semantics.specs.Calls.pushes_new p' no_contracts) ty c values (twin f (with_stack f.local rest) after maker hs b ∷ fs') v;
          stops = λ v. stuck v;
        })
        holds fs' (beside ss w))

  -- the captured value is stored as its type keeps it, and the run goes on at a place
  abbrev pub kept_in : List Value → ℕ → Frame → List Cell → Continuation → List Frame → World → List Statics → ℕ → Next
  kept_in [] c f ex b fs' w ss q = stuck (beside ss w)
  kept_in (v ∷ rest) c f ex b fs' w ss q =
      if_there (option_and_then (set_cell p v) (slice_get f.local.captured c)) (beside ss w) (λ x. stands f (record f.local { captured = Rattle.std.specs.Prelude.slice_set f.local.captured c x; stack = rest }) ex q b fs' w ss)

  -- what a place of T holds through its argument is pushed, as by ldobj, and the run goes on behind the call
  abbrev pub loaded_at : Marks → Option Meaning → List Value → Frame → List Cell → Continuation → List Frame → World → List Statics → Next
  loaded_at m (Some (OfMethod owner c (t ∷ ts))) (v ∷ rest) f ex b fs' w ss =
      if_there (pointed (out-Value v)) (beside ss w)
      (λ q. if_there (option_and_then (seen_as (storage p' t)) (read p' (twin f (with_stack f.local rest) ex (m.places f.at) [] b ∷ fs') (beside ss w) q)) (beside ss w) (λ y. stands f (pushed y (with_stack f.local rest)) ex (m.places (next_place f.at)) b fs' w ss))
  loaded_at m o stack f ex b fs' w ss = stuck (beside ss w)

  -- an Assert or Assume stands there, with its label and the method that the label is of
  abbrev pub IsInline : Plan → ℕ → Frame → List Frame → ProgramPoint → Instr → ClauseKind → ℕ → Name → Type 0
  IsInline plan me f fs (InGroup gr j q) i kd home label =
      (x : Piece) × (piece_at (Some plan) gr j ≡ Some x) × (slice_get x.clause.instrs q ≡ Some i) × (contract_call p i ≡ ChecksHere kd) × (home ≡ x.clause.home)
      × (label ≡ maybe [] (λ name. name) (slice_get x.clause.inline (count_checks p (take q x.clause.instrs))))
  IsInline plan me f fs at i kd home label =
      (slice_get (body_of p me).instrs (place_in at) ≡ Some i) × (contract_call p i ≡ ChecksHere kd) × (home ≡ me)
      × (label ≡ inline_label plan.effective.asserts (inline_number p plan.effective.asserts (body_of p me).instrs at))

  -- ---- which instructions are copied as they are

  abbrev pub IsNoCheck : ℕ → Instr → Type 0
  IsNoCheck me i = is_check (contract_call p i) ≡ false

  -- a call that has no meaning of its own in a clause
  abbrev pub is_copied : ContractCall → Bool
  is_copied NoContractCall = true
  is_copied EndsBlock = true
  is_copied Abbreviates = true
  is_copied _ = false

  abbrev pub has_any : List Piece → Bool
  has_any [] = false
  has_any (x ∷ xs) = true

  -- the rest is guarded where clauses on exceptions are kept
  abbrev pub is_guarded : Option Plan → ProgramPoint → Bool
  is_guarded None at = false
  is_guarded (Some plan) (Rest q) = has_any (pieces plan group.Throw)
  is_guarded (Some plan) _ = false

  -- a `ret` of the rest is lifted where postconditions or invariants are kept; else it is copied
  abbrev pub has_exit : Plan → Bool
  has_exit plan = has_any (pieces plan group.Exit) || has_any (pieces plan group.Invariant)

  abbrev pub IsPlainAt : ℕ → Option Plan → ProgramPoint → Instr → Type 0
  IsPlainAt me None at i = Unit {0}
  IsPlainAt me (Some plan) (LeadIn q) i = IsNoCheck me i
  IsPlainAt me (Some plan) (InGroup gr j q) i = IsTrue (is_copied (contract_call p i)) × ((x : Piece) → piece_at (Some plan) gr j ≡ Some x → recalled x q ≡ None)
  IsPlainAt me (Some plan) (Rest q) i = IsNoCheck me i × (has_exit plan ≡ true → class_of i.op ≢ class.Return)

  -- what is returned is kept as it is by another `ret`
  abbrev pub Stays : Plan → Frame → Option Value → Type 0
  Stays plan f v = (has_exit plan ≡ true) × (returned p f (top_of v) ≡ Some v)

  -- handlers of the old table, which hold the place where the frame stands: a frame keeps no others, and in a group none
  abbrev pub AreLow : ℕ → List Handling → Type 0
  AreLow me [] = Unit {0}
  AreLow me (h ∷ hs) = (h.handler < length (body_of p me).regions) × AreLow me hs

  abbrev pub Current : ℕ → ProgramPoint → List Handling → Type 0
  Current me at hs = AreLow me hs × (handled_at (body_of p me).regions at hs ≡ hs)

  -- what a group needs when it is over
  abbrev pub StaysIn : Plan → Group → Frame → Option Value → Type 0
  StaysIn plan group.Exit f v = Stays plan f v
  StaysIn plan group.Invariant f v = Stays plan f v
  StaysIn plan group.Throw f v = has_any (pieces plan group.Throw) ≡ true
  StaysIn plan gr f v = Unit {0}

  -- the frame of the first run stands in this part, and its twin at a place of the same instruction
  pub record Groups (me : ℕ) (plan : Plan) (m : Marks) : Type 0 where
    pub entry_door : m.door group.Entry ≡ m.places (LeadIn plan.effective.lead_end)
    pub entry_out : m.out group.Entry ≡ m.places (Rest plan.effective.rest_from)
    pub then_invariants : m.out group.Exit ≡ m.door group.Invariant
    pub bare_doors : (gr : Group) (h : Handling) → h.handler < length (body_of p me).regions → in_handler (body_of p' me).regions (m.door gr) h ≡ false
    -- a group begins one deeper, or is passed over: the entry group with what the lead-in left on the stack, each other with nothing
    pub enters : (f : Frame) (fs fs' : List Frame) (w : World) (ex : List Cell) (ss : List Statics) (b : Continuation) → f.method ≡ me → f.thrown ≡ None → Paired m f fs fs' w ex ss
        → EntersAt m plan (cost k p) (stands f f.local ex (m.door group.Entry) b fs' w ss) f fs f.local b fs' w (next_piece p plan group.Entry 0 f fs w) (runs_at plan group.Entry w.depth)
    pub opens : (gr : Group) (f : Frame) (fs fs' : List Frame) (w : World) (ex : List Cell) (ss : List Statics) (b : Continuation) → gr ≢ group.Entry → f.local.stack ≡ [] → f.method ≡ me → FitsGroup gr f.thrown → ExceptionIf p w f.thrown → Paired m f fs fs' w ex ss
        → OpensAt m plan gr (opening_cost k p gr) (stands f f.local ex (m.door gr) b fs' w ss) f fs f.local b fs' w (next_piece p plan gr 0 f fs w) (runs_at plan gr w.depth)
    -- behind a piece the next one begins, or the group is over
    pub continues : (gr : Group) (j : ℕ) (x : Piece) (f : Frame) (fs fs' : List Frame) (w : World) (ex : List Cell) (ss : List Statics) (b : Continuation) → piece_at (Some plan) gr j ≡ Some x → f.method ≡ me → FitsGroup gr f.thrown → ExceptionIf p w f.thrown → 0 < w.depth → Paired m f fs fs' w ex ss
        → ContinuesAt m plan gr (cost k p) (stands f f.local ex (m.behind gr j) b fs' w ss) f fs f.local b fs' w (next_piece p plan gr (j + 1) f fs w)
    -- an exception in a piece leaves the frame with the depth as before, but one in a capture is dropped
    pub breaks : (gr : Group) (j q q' : ℕ) (f : Frame) (fs fs' : List Frame) (w : World) (ex : List Cell) (ss : List Statics) (b : Continuation) (x : ℕ) → f.at ≡ InGroup gr j q → IsHere (Some plan) f.at → IsTrue (m.belongs f.at q') → f.method ≡ me → FitsGroup gr f.thrown → 0 < w.depth → Paired m f fs fs' w ex ss → drops (piece_at (Some plan) gr j) ≡ false
        → (ss2 : List Statics) × Beside (state.lowered w) ss2 × Comes p' (cost k p) (unwind p' no_contracts false (twin f f.local ex q' [] b ∷ fs') (beside ss w) x) (leaves_with f b fs' (state.lowered w) ss2 x)
    pub swallows : (gr : Group) (j q q' : ℕ) (f : Frame) (fs fs' : List Frame) (w : World) (ex : List Cell) (ss : List Statics) (b : Continuation) (x : ℕ) → f.at ≡ InGroup gr j q → IsHere (Some plan) f.at → IsTrue (m.belongs f.at q') → f.method ≡ me → FitsGroup gr f.thrown → 0 < w.depth → Paired m f fs fs' w ex ss → drops (piece_at (Some plan) gr j) ≡ true → IsException p w x
        → ContinuesAt m plan group.Entry (cost k p) (unwind p' no_contracts false (twin f f.local ex q' [] b ∷ fs') (beside ss w) x) f fs f.local b fs' w (next_piece p plan group.Entry (j + 1) f fs w)
    -- behind the invariants the value is returned, behind the clauses on exceptions the exception goes on
    pub returns : (f : Frame) (fs fs' : List Frame) (w : World) (ex : List Cell) (ss : List Statics) (b : Continuation) → f.method ≡ me → ReturnsAsNamed p f → Stays plan f f.local.result → Paired m f fs fs' w ex ss
        → Comes p' (cost k p) (stands f f.local ex (m.out group.Invariant) b fs' w ss) (return_with p' no_contracts b f.local.args f.local.result fs' (beside ss w))
    pub throws : (f : Frame) (fs fs' : List Frame) (w : World) (ex : List Cell) (ss : List Statics) (b : Continuation) (x : ℕ) → f.method ≡ me → f.thrown ≡ Some x → has_any (pieces plan group.Throw) ≡ true → Paired m f fs fs' w ex ss
        → Comes p' (cost k p) (stands f f.local ex (m.out group.Throw) b fs' w ss) (leaves_with f b fs' w ss x)
    -- ret in the rest
    pub lifts : (f : Frame) (fs fs' : List Frame) (w : World) (ex : List Cell) (ss : List Statics) (b : Continuation) (hs : List Handling) (q : ℕ) (i : Instr) (v : Option Value) → f.method ≡ me → ReturnsAsNamed p f → has_exit plan ≡ true → f.at ≡ Rest q → IsHere (Some plan) f.at → fetch p k g (Some plan) me f.at ≡ Some i → class_of i.op ≡ class.Return → Paired m f fs fs' w ex ss → Current me f.at hs
        → returned p f f.local.stack ≡ Some v → length f.local.stack ≡ length (top_of v) → Departs m (cost k p) (from_here m f ex b fs' w ss hs) f fs (with_stack (record f.local { result = v }) []) (m.door group.Exit) b fs' w
    pub lifts_stuck : (f : Frame) (fs fs' : List Frame) (w : World) (ex : List Cell) (ss : List Statics) (b : Continuation) (hs : List Handling) (q : ℕ) (i : Instr) → f.method ≡ me → ReturnsAsNamed p f → has_exit plan ≡ true → f.at ≡ Rest q → IsHere (Some plan) f.at → fetch p k g (Some plan) me f.at ≡ Some i → class_of i.op ≡ class.Return → Paired m f fs fs' w ex ss → Current me f.at hs
        → returned p f f.local.stack ≡ None → Comes p' (cost k p) (from_here m f ex b fs' w ss hs) (stuck (beside ss w))
    -- the call that ends a clause
    pub checks : (gr : Group) (j q : ℕ) (x : Piece) (i : Instr) (kd : ClauseKind) (c : Condition) (f : Frame) (fs fs' : List Frame) (w : World) (ex : List Cell) (ss : List Statics) (b : Continuation) → f.method ≡ me → f.at ≡ InGroup gr j q → IsHere (Some plan) f.at → piece_at (Some plan) gr j ≡ Some x → slice_get x.clause.instrs q ≡ Some i → contract_call p i ≡ EndsClause kd → Paired m f fs fs' w ex ss
        → condition_in (has_message p i) f.local.stack ≡ Some c → Checked m f fs fs' w ex ss b [] (clause_failure f fs x c.user) c.holds c.rest (m.behind gr j)
    pub checks_stuck : (gr : Group) (j q : ℕ) (x : Piece) (i : Instr) (kd : ClauseKind) (f : Frame) (fs fs' : List Frame) (w : World) (ex : List Cell) (ss : List Statics) (b : Continuation) → f.method ≡ me → f.at ≡ InGroup gr j q → IsHere (Some plan) f.at → piece_at (Some plan) gr j ≡ Some x → slice_get x.clause.instrs q ≡ Some i → contract_call p i ≡ EndsClause kd → Paired m f fs fs' w ex ss
        → condition_in (has_message p i) f.local.stack ≡ None → Comes p' (cost k p) (from_here m f ex b fs' w ss []) (stuck (beside ss w))
    -- Assert and Assume, in the lead-in, in a clause and in the rest
    pub asserts : (f : Frame) (fs fs' : List Frame) (w : World) (ex : List Cell) (ss : List Statics) (b : Continuation) (hs : List Handling) (i : Instr) (kd : ClauseKind) (c : Condition) (label : Name) (home : ℕ) → f.method ≡ me → IsHere (Some plan) f.at → IsInline plan me f fs f.at i kd home label → rank plan.settings.level ≡ 4 → Paired m f fs fs' w ex ss → Current me f.at hs
        → condition_in (has_message p i) f.local.stack ≡ Some c → Checked m f fs fs' w ex ss b hs (record { kind = kd; exception = None; home = home; user = c.user; label = label }) c.holds c.rest (m.places (next_place f.at))
    pub asserts_stuck : (f : Frame) (fs fs' : List Frame) (w : World) (ex : List Cell) (ss : List Statics) (b : Continuation) (hs : List Handling) (i : Instr) (kd : ClauseKind) (label : Name) (home : ℕ) → f.method ≡ me → IsHere (Some plan) f.at → IsInline plan me f fs f.at i kd home label → rank plan.settings.level ≡ 4 → Paired m f fs fs' w ex ss → Current me f.at hs
        → condition_in (has_message p i) f.local.stack ≡ None → Comes p' (cost k p) (from_here m f ex b fs' w ss hs) (stuck (beside ss w))
    pub drops_arguments : (f : Frame) (fs fs' : List Frame) (w : World) (ex : List Cell) (ss : List Statics) (b : Continuation) (hs : List Handling) (i : Instr) (kd : ClauseKind) (label : Name) (home : ℕ) → f.method ≡ me → IsHere (Some plan) f.at → IsInline plan me f fs f.at i kd home label → (rank plan.settings.level == 4) ≡ false → Paired m f fs fs' w ex ss → Current me f.at hs
        → Goes p' (cost k p) (from_here m f ex b fs' w ss hs)
        (if_there (dropped (has_message p i) f.local.stack) (beside ss w) (λ rest. Rattle.cil_semantics.specs.Unwind.goes_at p' (twin f (with_stack f.local rest) ex (m.places (next_place f.at)) hs b) (Rest (m.places (next_place f.at))) (grow ex (with_stack f.local rest)) hs fs' (beside ss w)))
    -- old values: taken in the entry group, and pushed in clauses
    pub takes : (gr : Group) (j q : ℕ) (x : Piece) (i : Instr) (c : ℕ) (f : Frame) (fs fs' : List Frame) (w : World) (ex : List Cell) (ss : List Statics) (b : Continuation) → f.method ≡ me → f.at ≡ InGroup gr j q → IsHere (Some plan) f.at → piece_at (Some plan) gr j ≡ Some x → x.captures ≡ Some c → slice_get x.clause.instrs q ≡ Some i → contract_call p i ≡ TakesOld → Paired m f fs fs' w ex ss
        → Goes p' (cost k p) (from_here m f ex b fs' w ss []) (kept_in f.local.stack c f ex b fs' w ss (m.behind gr j))
    pub recalls : (gr : Group) (j q : ℕ) (x : Piece) (o : ℕ × Old) (c : Cell) (f : Frame) (fs fs' : List Frame) (w : World) (ex : List Cell) (ss : List Statics) (b : Continuation) → f.method ≡ me → f.at ≡ InGroup gr j q → IsHere (Some plan) f.at → piece_at (Some plan) gr j ≡ Some x → recalled x q ≡ Some o → slice_get f.local.captured (x.first_captured + o.0) ≡ Some c → Paired m f fs fs' w ex ss
        → CanArrive (Some plan) (moved_to (o.1.to + 1) f.at) × Goes p' (cost k p) (from_here m f ex b fs' w ss []) (stands f (pushed c.value f.local) ex (m.places (moved_to (o.1.to + 1) f.at)) b fs' w ss)
    pub results : (gr : Group) (j q : ℕ) (x : Piece) (i : Instr) (v : Value) (f : Frame) (fs fs' : List Frame) (w : World) (ex : List Cell) (ss : List Statics) (b : Continuation) → f.method ≡ me → f.at ≡ InGroup gr j q → IsHere (Some plan) f.at → piece_at (Some plan) gr j ≡ Some x → slice_get x.clause.instrs q ≡ Some i → contract_call p i ≡ GivesResult → f.local.result ≡ Some v → Paired m f fs fs' w ex ss
        → Goes p' (cost k p) (from_here m f ex b fs' w ss []) (stands f (pushed v f.local) ex (m.places (next_place f.at)) b fs' w ss)
    -- ValueAtReturn loads through its argument
    pub loads : (gr : Group) (j q : ℕ) (x : Piece) (i : Instr) (f : Frame) (fs fs' : List Frame) (w : World) (ex : List Cell) (ss : List Statics) (b : Continuation) → f.method ≡ me → f.at ≡ InGroup gr j q → IsHere (Some plan) f.at → piece_at (Some plan) gr j ≡ Some x → recalled x q ≡ None → slice_get x.clause.instrs q ≡ Some i → contract_call p i ≡ ReadsArgument → Paired m f fs fs' w ex ss
        → Goes p' (cost k p) (from_here m f ex b fs' w ss []) (loaded_at m (meaning_here p (here_of f fs) i) f.local.stack f ex b fs' w ss)

  abbrev pub GroupsIf : ℕ → Option Plan → Marks → Type 0
  GroupsIf me None m = Unit {0}
  GroupsIf me (Some plan) m = Groups me plan m

  pub record Spliced (me : ℕ) (plan : Option Plan) (m : Marks) : Type 0 where
    -- locals: the old ones, the clauses', the captured values, and more
    pub locals : (here : Here) → here.method ≡ me → local_tys p' here (body_of p' me).locals ≡ (local_tys p here (body_of p me).locals ++ clause_tys p here plan) ++ (captured_tys p here plan ++ m.extra here)
    pub counts : (here : Here) → here.method ≡ me → (length (local_tys p here (body_of p me).locals ++ clause_tys p here plan) ≡ m.old_locals) × (length (captured_tys p here plan) ≡ m.olds)
    pub begins : m.places (first_place plan) ≡ 0
    -- copies
    pub copied : (at : ProgramPoint) (i : Instr) → IsHere plan at → fetch p k g plan me at ≡ Some i → IsPlainAt me plan at i → (i' : Instr) × (slice_get (body_of p' me).instrs (m.places at) ≡ Some i') × IsCopy p p' me (λ t. m.places (moved_to t at)) i i'
    -- behind the end of the code a run is stuck; there nothing stands, or an instruction that isn't run
    pub ends : (at : ProgramPoint) (i' : Instr) → IsHere plan at → fetch p k g plan me at ≡ None → slice_get (body_of p' me).instrs (m.places at) ≡ Some i' → class_of i'.op ≡ class.Unsupported
    pub goes_on : (at : ProgramPoint) (i : Instr) → IsHere plan at → fetch p k g plan me at ≡ Some i → IsPlainAt me plan at i → never_falls (class_of i.op) ≡ false → Onward plan m.places at (next_place at)
    -- searches: the old regions stand first, with the same numbers
    pub own : (at : ProgramPoint) → IsHere plan at → IsTrue (m.belongs at (m.places at))
    pub finds : (at : ProgramPoint) (q skip q' : ℕ) (fits : Token → Bool) → IsHere plan at → is_group at ≡ false → IsHere plan (moved_to q at) → IsTrue (m.belongs (moved_to q at) q') → IsFound (search_from fits skip 0 q (body_of p me).regions)
        → search_from fits skip 0 q' (body_of p' me).regions ≡ moved_found (λ t. m.places (moved_to t at)) (search_from fits skip 0 q (body_of p me).regions)
    pub finally : (at : ProgramPoint) (q skip t q' : ℕ) → IsHere plan at → is_group at ≡ false → IsHere plan (moved_to q at) → CanArrive plan (moved_to t at) → IsTrue (m.belongs (moved_to q at) q')
        → option_map (λ (x : ℕ × Region). goes_to x.0 x.1.handler_from) (left_from skip 0 q' (m.places (moved_to t at)) (body_of p' me).regions) ≡ option_map (λ (x : ℕ × Region). goes_to x.0 (m.places (moved_to x.1.handler_from at))) (left_from skip 0 q t (body_of p me).regions)
    pub handlers : (at : ProgramPoint) (h : Handling) (q' : ℕ) → IsHere plan at → is_group at ≡ false → h.handler < length (body_of p me).regions → IsTrue (m.belongs at q') → in_handler (body_of p' me).regions q' h ≡ in_handler (body_of p me).regions (place_in at) h
    -- in the lead-in, and where no clause on exceptions is kept, nothing else is found
    pub unguarded : (at : ProgramPoint) (q skip q' : ℕ) (fits : Token → Bool) → IsHere plan at → is_group at ≡ false → is_guarded plan at ≡ false → IsHere plan (moved_to q at) → IsTrue (m.belongs (moved_to q at) q') → search_from fits skip 0 q (body_of p me).regions ≡ NoHandler → search_from fits skip 0 q' (body_of p' me).regions ≡ NoHandler
    -- the wrapper: an exception of the rest that no old region takes is kept, and the group of EnsuresOnThrow begins
    pub wrapper : (f : Frame) (fs fs' : List Frame) (w : World) (ex : List Cell) (ss : List Statics) (b : Continuation) (q skip q' q0 x : ℕ) (hs hs' : List Handling) → f.method ≡ me → Paired m f fs fs' w ex ss → AreLow me hs' → IsHere plan f.at → is_guarded plan f.at ≡ true → IsHere plan (moved_to q f.at) → IsTrue (m.belongs (moved_to q f.at) q') → skip ≤ length (body_of p me).regions → searched p f w x skip q f.at ≡ NoHandler → IsException p w x
        → Arrives m (wrapper_cost k p) (throws_in p' no_contracts (twin f f.local ex q0 hs b) hs' skip q' fs' (beside ss w) x (λ s v y. unwind p' no_contracts s fs' v y)) (record f { thrown = Some x }) fs (with_stack f.local []) (m.door group.Throw) b fs' w
    pub groups : GroupsIf me plan m
