-- Contract calls where they stand, in both runs: old values, results in clauses, Assert and Assume.
use Rattle.std.specs.Prelude.{◌≡◌, ℕ, suc, ◌+◌, ◌*◌, ◌≤◌, List, [], length, slice_get, Some, None}
use Rattle.cil_model.specs.declared.body.Instr.{Instr}
use Rattle.cil_model.specs.declared.contract.ClauseKind.{ClauseKind}
use Rattle.cil_model.specs.declared.contract.Contracts.{Contracts}
use Rattle.cil_model.specs.declared.contract.Group.{Group}
use Rattle.cil_model.specs.declared.contract.Old.{Old}
use Rattle.cil_model.specs.declared.program.Program.{Program}
use Rattle.cil_model.specs.declared.program.MethodDesc.{MethodDesc}
use Rattle.cil_semantics.specs.Core.{Name}
use Rattle.cil_semantics.specs.declared.state.Cell.{Cell}
use Rattle.cil_semantics.specs.declared.state.World.{World}
use Rattle.cil_semantics.specs.declared.state.Statics.{Statics}
use Rattle.cil_semantics.specs.declared.state.Handling.{Handling}
use Rattle.cil_semantics.specs.declared.state.Frame.{Frame}
use Rattle.cil_semantics.specs.declared.state.Continuation.{Continuation}
use Rattle.cil_semantics.specs.State.{pushed}
use Rattle.cil_semantics.specs.Tokens.{meaning_here}
use Rattle.cil_semantics.specs.declared.state.ProgramPoint.{ProgramPoint}
use Rattle.cil_semantics.specs.declared.state.ProgramPoint.TheVariants.{InGroup}
use Rattle.cil_semantics.specs.Contracted.{Piece, Plan}
use Rattle.cil_semantics.specs.Unwind.{body_of, plan_at, piece_at, here_of}
use Rattle.cil_semantics.specs.Frames.{if_there, go_on}
use Rattle.cil_semantics.specs.ContractCalls.{contract_call}
use Rattle.cil_semantics.specs.declared.contract_call.ContractCall.TheVariants.{GivesResult, ReadsArgument, TakesOld}
use Rattle.cil_semantics.specs.Checks.{AddedNumbers, check_inline, capture, recalled}
use Rattle.cil_semantics.specs.Machine.{recall, read_argument}
use Rattle.splice_facts.specs.WellFormed.{WellFormedValues}
use Rattle.splice_facts.specs.Layout.{Keeps, IsHere}
use Rattle.splice_facts.specs.Spliced.{Current, IsInline, from_here, cost, failure_cost}
use Rattle.splice_facts.specs.Related.{Rewritten, written, bounds, AnswersIn, per_frame, Under, Waits, Standing, AllStand, HasResult, count_groups, in_group}
use Rattle.simulation_steps.specs.Steps.{BesideIn}
use Rattle.simulation_calls.specs.Failures.{InPiece, ending}

module _ (p : Program) (k : Contracts) (ms : List MethodDesc) (g : AddedNumbers) (r : Rewritten p k ms g) where
  -- An old value is captured as its type keeps it, and the next piece begins.
  abbrev pub CapturesAlike : Type 0
  CapturesAlike =
      (c : Plan) (gr : Group) (j q n : ℕ) (x : Piece) (i : Instr) (h : Frame) (ex : List Cell) (b' : Continuation) (fs fs' : List Frame) (w : World) (ss : List Statics) → InPiece p k ms g r c gr j q x h ex b' fs fs' w ss → x.captures ≡ Some n → slice_get x.clause.instrs q ≡ Some i → contract_call p i ≡ TakesOld
      → AnswersIn p k ms g r (cost k p + ending p k ms g r (length fs)) (capture p k c gr j n h h.local.stack fs w) (from_here p k (written p k ms g r) g r.types r.depths (r.marks h.method) h ex b' fs' w ss [])

  -- A clause pushes the captured value in place of the old range.
  abbrev pub RecallsAlike : Type 0
  RecallsAlike =
      (c : Plan) (gr : Group) (j q : ℕ) (x : Piece) (o : ℕ × Old) (v : Cell) (h : Frame) (ex : List Cell) (b' : Continuation) (fs fs' : List Frame) (w : World) (ss : List Statics) → InPiece p k ms g r c gr j q x h ex b' fs fs' w ss → recalled x q ≡ Some o → slice_get h.local.captured (x.first_captured + o.0) ≡ Some v
      → AnswersIn p k ms g r (cost k p + per_frame p k ms g r (suc (length fs))) (recall p k g x o h fs w) (from_here p k (written p k ms g r) g r.types r.depths (r.marks h.method) h ex b' fs' w ss [])

  -- Result pushes what the frame returns.
  abbrev pub ResultsAlike : Type 0
  ResultsAlike =
      (c : Plan) (gr : Group) (j q : ℕ) (x : Piece) (i : Instr) (h : Frame) (ex : List Cell) (b' : Continuation) (fs fs' : List Frame) (w : World) (ss : List Statics) → InPiece p k ms g r c gr j q x h ex b' fs fs' w ss → slice_get x.clause.instrs q ≡ Some i → contract_call p i ≡ GivesResult → HasResult p h h.at → recalled x q ≡ None
      → AnswersIn p k ms g r (cost k p + per_frame p k ms g r (suc (length fs))) (if_there h.local.result w (λ v. go_on p k h (pushed v h.local) fs w)) (from_here p k (written p k ms g r) g r.types r.depths (r.marks h.method) h ex b' fs' w ss [])

  -- ValueAtReturn pushes what a place of its type holds through its argument, as ldobj does.
  abbrev pub LoadsAlike : Type 0
  LoadsAlike =
      (c : Plan) (gr : Group) (j q : ℕ) (x : Piece) (i : Instr) (h : Frame) (ex : List Cell) (b' : Continuation) (fs fs' : List Frame) (w : World) (ss : List Statics) → InPiece p k ms g r c gr j q x h ex b' fs fs' w ss → slice_get x.clause.instrs q ≡ Some i → contract_call p i ≡ ReadsArgument → recalled x q ≡ None → WellFormedValues (bounds p k ms g r) h.local.stack
      → AnswersIn p k ms g r (cost k p + per_frame p k ms g r (suc (length fs))) (read_argument p k g (meaning_here p (here_of h fs) i) h.local.stack h fs w) (from_here p k (written p k ms g r) g r.types r.depths (r.marks h.method) h ex b' fs' w ss [])

  -- a clause recalls no old value there
  abbrev pub NotRecalled : Plan → ProgramPoint → Type 0
  NotRecalled c (InGroup gr j q) = (x : Piece) → piece_at (Some c) gr j ≡ Some x → recalled x q ≡ None
  NotRecalled c at = Unit {0}

  -- the topmost frame of both runs at a call, in any part of its body
  pub record AtCheck (c : Plan) (h : Frame) (ex : List Cell) (b' : Continuation) (hs' : List Handling) (fs fs' : List Frame) (w : World) (ss : List Statics) : Type 0 where
    pub plan : plan_at k p h.method ≡ Some c
    pub here : IsHere (Some c) h.at
    pub unrecalled : NotRecalled c h.at
    pub stands : Standing p k ms g r h fs
    pub keeps : Keeps (r.marks h.method) (here_of h fs) h.thrown h.local ex
    pub waits : Waits (plan_at k p h.method) (r.marks h.method) (length (body_of p h.method).regions) h.at h.handling hs'
    pub current : Current p k (written p k ms g r) g r.types r.depths h.method h.at hs'
    pub under : Under p k ms g r h.continuation b' fs fs'
    pub others : AllStand p k ms g r fs
    pub alike : BesideIn p k ms g r w ss
    pub deep : w.depth ≤ suc k.settings.guard
    pub count : w.depth ≡ in_group h.at + count_groups fs

  -- Assert and Assume are checked where they stand, or below the full level drop their arguments.
  abbrev pub ChecksHereAlike : Type 0
  ChecksHereAlike =
      (c : Plan) (i : Instr) (kd : ClauseKind) (label : Name) (home : ℕ) (h : Frame) (ex : List Cell) (b' : Continuation) (hs' : List Handling) (fs fs' : List Frame) (w : World) (ss : List Statics) → AtCheck c h ex b' hs' fs fs' w ss → IsInline p k (written p k ms g r) g r.types r.depths c h.method h fs h.at i kd home label
      → AnswersIn p k ms g r (failure_cost k p + (2 * cost k p + per_frame p k ms g r (suc (length fs)))) (check_inline p k g c kd home label i h fs w) (from_here p k (written p k ms g r) g r.types r.depths (r.marks h.method) h ex b' fs' w ss hs')
