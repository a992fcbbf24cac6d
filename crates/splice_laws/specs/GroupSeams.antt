-- What is asked of the seams of one group: where it begins, goes on, breaks off, and where its clauses end.
use Rattle.std.specs.Prelude.{◌≡◌, ℕ, ◌+◌, ◌<◌, Bool, true, false, List, [], ◌∷◌, slice_get, Option, Some, None, IsTrue}
use Rattle.cil_model.specs.declared.body.Instr.{Instr}
use Rattle.cil_model.specs.declared.contract.ClauseKind.{ClauseKind}
use Rattle.cil_model.specs.declared.contract.Contracts.{Contracts}
use Rattle.cil_model.specs.declared.contract.Group.{Group}
use Rattle.cil_model.specs.declared.program.Program.{Program}
use Rattle.cil_model.specs.NoContracts.{no_contracts}
use Rattle.cil_semantics.specs.State as state
use Rattle.cil_semantics.specs.State.{Next, with_stack}
use Rattle.cil_semantics.specs.declared.state.Cell.{Cell}
use Rattle.cil_semantics.specs.declared.state.Local.{Local as LocalState}
use Rattle.cil_semantics.specs.declared.state.World.{World}
use Rattle.cil_semantics.specs.declared.state.Statics.{Statics}
use Rattle.cil_semantics.specs.declared.state.ProgramPoint.TheVariants.{InGroup}
use Rattle.cil_semantics.specs.declared.state.Frame.{Frame}
use Rattle.cil_semantics.specs.declared.state.Continuation.{Continuation}
use Rattle.cil_semantics.specs.Contracted.{Piece, Plan, runs_at}
use Rattle.cil_semantics.specs.Unwind.{piece_at, next_piece, unwind, drops}
use Rattle.cil_semantics.specs.Frames.{stuck}
use Rattle.cil_semantics.specs.ContractCalls.{contract_call, has_message}
use Rattle.cil_semantics.specs.declared.contract_call.ContractCall.TheVariants.{EndsClause}
use Rattle.cil_semantics.specs.Checks.{AddedNumbers, Condition, condition_in}
use Rattle.splice_facts.specs.Comes.{Comes}
use Rattle.splice_facts.specs.Grown.{beside}
use Rattle.splice_facts.specs.Layout.{Depths, Marks, IsHere}
use Rattle.splice_laws.specs.Fails.{NotMade}
use Rattle.splice_facts.specs.Spliced.{Beside, Arrives, ContinuesAt, Paired, Checked, twin, stands, from_here, leaves_with, clause_failure, cost}

module _ (p : Program) (k : Contracts) (p' : Program) (g : AddedNumbers) (n : ℕ) (depths : Depths n g) (me : ℕ) (plan : Plan) (m : Marks) (gr : Group) where
  -- where the group has a piece that takes part, its beginning, one deeper; else it is passed over
  abbrev pub BeginsAt : Next → Frame → List Frame → LocalState → Continuation → List Frame → World → Option (ℕ × Piece) → Bool → Type 0
  BeginsAt from f fs l b fs' w (Some x) true = Arrives p k p' g n depths m (cost k p) from f fs l (m.places (InGroup gr x.0 x.1.from)) b fs' (state.raised w)
  BeginsAt from f fs l b fs' w o t = Arrives p k p' g n depths m (cost k p) from f fs l (m.out gr) b fs' w

  pub record GroupSeams : Type 0 where
    pub begins : (f : Frame) (fs fs' : List Frame) (w : World) (ex : List Cell) (ss : List Statics) (b : Continuation) → f.method ≡ me → f.thrown ≡ None → Paired p k p' g n depths m f fs fs' w ex ss
        → BeginsAt (stands p k p' g n depths f f.local ex (m.door gr) b fs' w ss) f fs f.local b fs' w (next_piece p plan gr 0 f fs w) (runs_at plan gr w.depth)
    pub continues : (j : ℕ) (x : Piece) (f : Frame) (fs fs' : List Frame) (w : World) (ex : List Cell) (ss : List Statics) (b : Continuation) → piece_at (Some plan) gr j ≡ Some x → f.method ≡ me → f.thrown ≡ None → 0 < w.depth → Paired p k p' g n depths m f fs fs' w ex ss
        → ContinuesAt p k p' g n depths m plan gr (cost k p) (stands p k p' g n depths f f.local ex (m.behind gr j) b fs' w ss) f fs f.local b fs' w (next_piece p plan gr (j + 1) f fs w)
    pub breaks : (j q q' : ℕ) (f : Frame) (fs fs' : List Frame) (w : World) (ex : List Cell) (ss : List Statics) (b : Continuation) (x : ℕ) → f.at ≡ InGroup gr j q → IsHere (Some plan) f.at → IsTrue (m.belongs f.at q') → f.method ≡ me → 0 < w.depth → Paired p k p' g n depths m f fs fs' w ex ss → drops (piece_at (Some plan) gr j) ≡ false
        → (ss2 : List Statics) × Beside p k p' g n depths (state.lowered w) ss2 × Comes p' (cost k p) (unwind p' no_contracts false (twin p k p' g n depths f f.local ex q' [] b ∷ fs') (beside ss w) x) (leaves_with p k p' g n depths f b fs' (state.lowered w) ss2 x)
    pub checks : (j q : ℕ) (x : Piece) (i : Instr) (kd : ClauseKind) (c : Condition) (f : Frame) (fs fs' : List Frame) (w : World) (ex : List Cell) (ss : List Statics) (b : Continuation) → f.method ≡ me → f.at ≡ InGroup gr j q → IsHere (Some plan) f.at → piece_at (Some plan) gr j ≡ Some x → NotMade x.clause.kind → slice_get x.clause.instrs q ≡ Some i → contract_call p i ≡ EndsClause kd → Paired p k p' g n depths m f fs fs' w ex ss
        → condition_in (has_message p i) f.local.stack ≡ Some c → Checked p k p' g n depths m f fs fs' w ex ss b [] (clause_failure p k p' g n depths f fs x c.user) c.holds c.rest (m.behind gr j)
    pub checks_stuck : (j q : ℕ) (x : Piece) (i : Instr) (kd : ClauseKind) (f : Frame) (fs fs' : List Frame) (w : World) (ex : List Cell) (ss : List Statics) (b : Continuation) → f.method ≡ me → f.at ≡ InGroup gr j q → IsHere (Some plan) f.at → piece_at (Some plan) gr j ≡ Some x → NotMade x.clause.kind → slice_get x.clause.instrs q ≡ Some i → contract_call p i ≡ EndsClause kd → Paired p k p' g n depths m f fs fs' w ex ss
        → condition_in (has_message p i) f.local.stack ≡ None → Comes p' (cost k p) (from_here p k p' g n depths m f ex b fs' w ss []) (stuck (beside ss w))
