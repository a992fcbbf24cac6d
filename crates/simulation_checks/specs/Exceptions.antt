-- The exception that a failed Requires<E> makes (Code Contracts User Manual, section 2.1), and the end of a clause, in both runs.
use Rattle.std.specs.Prelude.{ℕ, ◌+◌, List, [], ◌∷◌, length}
use Rattle.cil_model.specs.declared.contract.Contracts.{Contracts}
use Rattle.cil_model.specs.declared.contract.Group.{Group}
use Rattle.cil_model.specs.declared.program.Program.{Program}
use Rattle.cil_model.specs.declared.program.MethodDesc.{MethodDesc}
use Rattle.cil_semantics.specs.declared.state.Cell.{Cell}
use Rattle.cil_semantics.specs.declared.state.World.{World}
use Rattle.cil_semantics.specs.declared.state.Statics.{Statics}
use Rattle.cil_semantics.specs.declared.state.Frame.{Frame}
use Rattle.cil_semantics.specs.declared.state.Continuation.{Continuation}
use Rattle.cil_semantics.specs.State.{with_stack, with_local}
use Rattle.cil_semantics.specs.Contracted.{Piece, Plan}
use Rattle.cil_semantics.specs.Returns.{piece_over}
use Rattle.cil_semantics.specs.Checks.{AddedNumbers, Condition, check}
use Rattle.splice_facts.specs.Spliced.{Checked, from_here, failure_cost}
use Rattle.splice_facts.specs.Related.{Rewritten, written, AnswersIn}
use Rattle.simulation_calls.specs.Failures.{MakesAlike, InPiece, failure_of, old_sequel, new_sequel, ending}

module _ (p : Program) (k : Contracts) (ms : List MethodDesc) (g : AddedNumbers) (r : Rewritten p k ms g) where
  -- A failed Requires<E> makes its exception alike, and throws it alike, or its constructor throws another alike. An initializer of E runs before, and may throw.
  abbrev pub ExceptionsMadeAlike : Type 0
  ExceptionsMadeAlike =
      (c : Plan) (gr : Group) (j q : ℕ) (x : Piece) (h : Frame) (ex : List Cell) (b' : Continuation) (fs fs' : List Frame) (w : World) (ss : List Statics) (o : Condition) → InPiece p k ms g r c gr j q x h ex b' fs fs' w ss
      → (ch : Checked p k (written p k ms g r) g r.types r.depths (r.marks h.method) h fs fs' w ex ss b' [] (failure_of p k ms g r h fs x o) o.holds o.rest ((r.marks h.method).behind gr j))
      → MakesAlike p k ms g r (failure_of p k ms g r h fs x o) (old_sequel p k ms g r c gr j h (with_stack h.local o.rest) fs) (new_sequel p k ms g r h fs' b' (with_stack h.local o.rest) ch.after ch.seam ch.maker ((r.marks h.method).behind gr j)) (record h { local = with_stack h.local o.rest } ∷ fs) fs' (ending p k ms g r (length fs)) w.depth

  -- The condition that ends a clause holds and the piece is over in both runs, or it fails in both.
  abbrev pub ClausesDone : Type 0
  ClausesDone =
      (c : Plan) (gr : Group) (j q : ℕ) (x : Piece) (h : Frame) (ex : List Cell) (b' : Continuation) (fs fs' : List Frame) (w : World) (ss : List Statics) (o : Condition) → InPiece p k ms g r c gr j q x h ex b' fs fs' w ss
      → Checked p k (written p k ms g r) g r.types r.depths (r.marks h.method) h fs fs' w ex ss b' [] (failure_of p k ms g r h fs x o) o.holds o.rest ((r.marks h.method).behind gr j)
      → AnswersIn p k ms g r (failure_cost k p + ending p k ms g r (length fs)) (check p k g (failure_of p k ms g r h fs x o) o.holds (record h { local = with_stack h.local o.rest } ∷ fs) w (λ v. piece_over p k c gr j (with_local (with_stack h.local o.rest) h) fs v))
      (from_here p k (written p k ms g r) g r.types r.depths (r.marks h.method) h ex b' fs' w ss [])
