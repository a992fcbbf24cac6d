-- A call with contracts goes by its parts: the lead-in; the entry group; the rest; and behind it the postconditions and the invariants, or the clauses on exceptions (the Code Contracts manual, section 2, and this project's order of groups).
use Rattle.std.specs.Prelude.{◌≡◌, ◌≢◌, ℕ, ◌+◌, true, false, List, [], ◌++◌, filter, Some, None}
use Rattle.cil_model.specs.declared.contract.Contracts.{Contracts}
use Rattle.cil_model.specs.declared.contract.Group.{Group}
use Rattle.cil_model.specs.declared.contract.Group.TheVariants as group
use Rattle.cil_model.specs.declared.program.Program.{Program}
use Rattle.cil_semantics.specs.declared.state.World.{World}
use Rattle.cil_semantics.specs.declared.state.Local.{Local}
use Rattle.cil_semantics.specs.declared.state.ProgramPoint.TheVariants.{LeadIn, InGroup, Rest}
use Rattle.cil_semantics.specs.declared.state.Handling.{Handling}
use Rattle.cil_semantics.specs.declared.state.Frame.{Frame}
use Rattle.cil_semantics.specs.State.{Next, with_local, with_stack, raised, lowered}
use Rattle.cil_semantics.specs.Contracted.{Piece, Plan, pieces, runs_at, is_pre, each_captured, is_ensures, is_throws}
use Rattle.cil_semantics.specs.Unwind.{piece_at, goes_at, arrive_in, next_piece, no_handler_left, ends_frame, drops, unwind, Below}
use Rattle.cil_semantics.specs.Frames.{first_place}
use Rattle.cil_semantics.specs.Returns.{return_to, return_from, begin_invariants, piece_over}

-- the frame stands at the beginning of a piece
abbrev pub at_piece : Program → Group → ℕ × Piece → Frame → List Frame → World → Next
at_piece p g x f fs w = goes_at p f (InGroup g x.0 x.1.from) (with_stack f.local []) [] fs w

-- the frame stands at the beginning of the rest
abbrev pub at_rest : Program → Plan → Frame → List Frame → World → Next
at_rest p plan f fs w = goes_at p f (Rest plan.effective.rest_from) (with_stack f.local []) [] fs w

-- the frame ends with an exception, which goes on below
abbrev pub goes_below : Program → Frame → World → ℕ → Below → Next
goes_below p f w x below = ends_frame p f.initializes f.continuation w x below

-- Part 1: the lead-in runs from the first instruction. A ret in it ends the call at once, and so does an exception that it doesn't catch.
pub record FirstPart (p : Program) (k : Contracts) (plan : Plan) (f : Frame) (fs : List Frame) : Type 0 where
  pub begins : first_place (Some plan) ≡ LeadIn 0
  pub goes_on : (q : ℕ) (l : Local) (hs : List Handling) (w : World) → q ≢ plan.effective.lead_end → arrive_in p (Some plan) f (LeadIn q) l hs fs w ≡ goes_at p f (LeadIn q) l hs fs w
  pub returns : (q : ℕ) (w : World) → return_from p k (Some plan) (LeadIn q) f fs w ≡ return_to p k f fs w
  pub throws : (q x : ℕ) (w : World) (below : Below) → no_handler_left p (Some plan) f (LeadIn q) fs w x below ≡ goes_below p f w x below

-- Part 2: the preconditions in order, then the captures in order, where the depth is at most the guard. It is one higher within. An exception of a capture is dropped; any other ends the call.
pub record EntryPart (p : Program) (k : Contracts) (plan : Plan) (f : Frame) (fs : List Frame) : Type 0 where
  pub order : pieces plan group.Entry ≡ filter is_pre plan.clauses ++ each_captured plan.clauses
  pub begins : (x : ℕ × Piece) (l : Local) (hs : List Handling) (w : World) → runs_at plan group.Entry w.depth ≡ true → next_piece p plan group.Entry 0 f fs w ≡ Some x
      → arrive_in p (Some plan) f (LeadIn plan.effective.lead_end) (with_stack l []) hs fs w ≡ at_piece p group.Entry x (with_local l f) fs (raised w)
  pub passed_over : (l : Local) (hs : List Handling) (w : World) → runs_at plan group.Entry w.depth ≡ false
      → arrive_in p (Some plan) f (LeadIn plan.effective.lead_end) (with_stack l []) hs fs w ≡ at_rest p plan (with_local l f) fs w
  pub goes_on : (i : ℕ) (x : ℕ × Piece) (w : World) → next_piece p plan group.Entry (i + 1) f fs w ≡ Some x
      → piece_over p k plan group.Entry i f fs w ≡ at_piece p group.Entry x f fs w
  pub ends : (i : ℕ) (w : World) → next_piece p plan group.Entry (i + 1) f fs w ≡ None
      → piece_over p k plan group.Entry i f fs w ≡ at_rest p plan f fs (lowered w)
  pub drops_exceptions : (i q x : ℕ) (w : World) (below : Below) → drops (piece_at (Some plan) group.Entry i) ≡ true
      → no_handler_left p (Some plan) f (InGroup group.Entry i q) fs w x below ≡ piece_over p k plan group.Entry i f fs w

-- An exception of a group is no other group's: the depth is as before, and it goes on below at once.
abbrev pub GroupsThrow : Program → Plan → Frame → List Frame → Type 0
GroupsThrow p plan f fs =
    (g : Group) (i q x : ℕ) (w : World) (below : Below) → drops (piece_at (Some plan) g i) ≡ false
    → no_handler_left p (Some plan) f (InGroup g i q) fs w x below ≡ goes_below p f (lowered w) x below

-- Parts 3 and 4, where the rest returns: the postconditions in order, then the invariants in order, then the value is returned.
pub record ReturnPart (p : Program) (k : Contracts) (plan : Plan) (f : Frame) (fs : List Frame) : Type 0 where
  pub order : pieces plan group.Exit ≡ filter is_ensures plan.clauses
  pub begins : (q : ℕ) (x : ℕ × Piece) (w : World) → runs_at plan group.Exit w.depth ≡ true → next_piece p plan group.Exit 0 f fs w ≡ Some x
      → return_from p k (Some plan) (Rest q) f fs w ≡ at_piece p group.Exit x f fs (raised w)
  pub passed_over : (q : ℕ) (w : World) → runs_at plan group.Exit w.depth ≡ false → return_from p k (Some plan) (Rest q) f fs w ≡ begin_invariants p k plan f fs w
  pub goes_on : (i : ℕ) (x : ℕ × Piece) (w : World) → next_piece p plan group.Exit (i + 1) f fs w ≡ Some x
      → piece_over p k plan group.Exit i f fs w ≡ at_piece p group.Exit x f fs w
  pub ends : (i : ℕ) (w : World) → next_piece p plan group.Exit (i + 1) f fs w ≡ None
      → piece_over p k plan group.Exit i f fs w ≡ begin_invariants p k plan f fs (lowered w)
  pub invariants : pieces plan group.Invariant ≡ plan.invariants
  pub begins_invariants : (x : ℕ × Piece) (w : World) → w.depth ≡ 0 → next_piece p plan group.Invariant 0 f fs w ≡ Some x
      → begin_invariants p k plan f fs w ≡ at_piece p group.Invariant x f fs (raised w)
  pub passes_over_invariants : (w : World) → w.depth ≢ 0 → begin_invariants p k plan f fs w ≡ return_to p k f fs w
  pub ends_invariants : (i : ℕ) (w : World) → next_piece p plan group.Invariant (i + 1) f fs w ≡ None
      → piece_over p k plan group.Invariant i f fs w ≡ return_to p k f fs (lowered w)

-- Parts 3 and 4, where the rest throws: the clauses on exceptions whose type fits, in order, then the same exception goes on.
pub record ThrowPart (p : Program) (k : Contracts) (plan : Plan) (f : Frame) (fs : List Frame) : Type 0 where
  pub order : pieces plan group.Throw ≡ filter is_throws plan.clauses
  pub begins : (q x : ℕ) (y : ℕ × Piece) (w : World) (below : Below) → runs_at plan group.Throw w.depth ≡ true → next_piece p plan group.Throw 0 (record f { thrown = Some x }) fs w ≡ Some y
      → no_handler_left p (Some plan) f (Rest q) fs w x below ≡ at_piece p group.Throw y (record f { thrown = Some x }) fs (raised w)
  pub passed_over : (q x : ℕ) (w : World) (below : Below) → runs_at plan group.Throw w.depth ≡ false → no_handler_left p (Some plan) f (Rest q) fs w x below ≡ goes_below p f w x below
  pub none_fits : (q x : ℕ) (w : World) (below : Below) → next_piece p plan group.Throw 0 (record f { thrown = Some x }) fs w ≡ None → no_handler_left p (Some plan) f (Rest q) fs w x below ≡ goes_below p f w x below
  pub ends : (i x : ℕ) (w : World) → f.thrown ≡ Some x → next_piece p plan group.Throw (i + 1) f fs w ≡ None
      → piece_over p k plan group.Throw i f fs w ≡ goes_below p f (lowered w) x (λ skip v y. unwind p k skip fs v y)

-- A call goes by these parts.
pub record GoesByParts (p : Program) (k : Contracts) (plan : Plan) (f : Frame) (fs : List Frame) : Type 0 where
  pub lead_in : FirstPart p k plan f fs
  pub entry : EntryPart p k plan f fs
  pub groups_throw : GroupsThrow p plan f fs
  pub return : ReturnPart p k plan f fs
  pub throw : ThrowPart p k plan f fs
