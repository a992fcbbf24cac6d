-- A clause that fails: it is reported and followed alike in both runs, and where it holds the next piece begins.
use Rattle.std.specs.Prelude.{◌≡◌, ℕ, suc, ◌+◌, ◌*◌, ◌≤◌, false, List, [], ◌∷◌, length, Some}
use Rattle.cil_model.specs.declared.ty.Ty.{Ty}
use Rattle.cil_model.specs.declared.value.Value.{Value}
use Rattle.cil_model.specs.declared.contract.Contracts.{Contracts}
use Rattle.cil_model.specs.declared.contract.Group.{Group}
use Rattle.cil_model.specs.declared.contract.ClauseKind.TheVariants as kind
use Rattle.cil_model.specs.declared.program.Program.{Program}
use Rattle.cil_model.specs.declared.program.MethodDesc.{MethodDesc}
use Rattle.cil_model.specs.NoContracts.{no_contracts}
use Rattle.cil_semantics.specs.declared.state.Cell.{Cell}
use Rattle.cil_semantics.specs.declared.state.Local.{Local}
use Rattle.cil_semantics.specs.declared.state.Object.{Object}
use Rattle.cil_semantics.specs.declared.state.World.{World}
use Rattle.cil_semantics.specs.declared.state.Statics.{Statics}
use Rattle.cil_semantics.specs.declared.state.ProgramPoint.TheVariants.{InGroup}
use Rattle.cil_semantics.specs.declared.state.Frame.{Frame}
use Rattle.cil_semantics.specs.declared.state.Continuation.{Continuation}
use Rattle.cil_semantics.specs.State.{Running, with_stack, with_local}
use Rattle.cil_semantics.specs.Contracted.{Piece, Plan}
use Rattle.cil_semantics.specs.Unwind.{plan_at, piece_at, here_of, unwind}
use Rattle.cil_semantics.specs.Frames.{stuck}
use Rattle.cil_semantics.specs.Returns.{piece_over}
use Rattle.cil_semantics.specs.Calls.{make, pushes_new}
use Rattle.cil_semantics.specs.Checks.{AddedNumbers, Failure, Condition, Sequel, check, goes_on_from, throw_exception, made_type, failing}
use Rattle.splice_facts.specs.Grown.{beside}
use Rattle.splice_facts.specs.Exceptions.{IsObject, ObjectIf, BackThere}
use Rattle.splice_facts.specs.Input.{ReturnsAsNamed}
use Rattle.splice_facts.specs.WellFormed.{WellFormedContinuation, WellFormedObjects}
use Rattle.splice_facts.specs.Layout.{Keeps, IsHere}
use Rattle.splice_facts.specs.Spliced.{Checked, StaysIn, clause_failure, from_here, twin, cost, failure_cost}
use Rattle.splice_facts.specs.Related.{Rewritten, written, bounds, ReachesIn, per_frame, Under, Standing, AllStand, count_groups, AnswersIn}
use Rattle.simulation_steps.specs.Steps.{BesideIn}

module _ (p : Program) (k : Contracts) (ms : List MethodDesc) (g : AddedNumbers) (r : Rewritten p k ms g) where
  -- where a failed Requires<E> makes its exception, both runs make it alike
  abbrev pub MakesAlike : Failure → Sequel → Sequel → List Frame → List Frame → ℕ → ℕ → Type 0
  MakesAlike x s t fs fs' n d =
      (v : World) (ss : List Statics) (ty : Ty) (text : Value) → x.kind ≡ kind.RequiresOf → made_type x ≡ Some ty → BesideIn p k ms g r v ss → v.depth ≡ d
      → ReachesIn p k ms g r n (throw_exception p g k.settings.throwing x s ty text fs v) (throw_exception (written p k ms g r) g k.settings.throwing x t ty text fs' (beside ss v))

  -- what follows a failure, in both runs, from worlds of a depth that are alike; where it is passed over, the heap is as it was
  pub record AlikeSequels (n d : ℕ) (heap : List Object) (x : Failure) (s t : Sequel) (fs fs' : List Frame) : Type 0 where
    pub passes_so : (v : World) (ss : List Statics) → BesideIn p k ms g r v ss → v.depth ≡ d → v.heap ≡ heap → ReachesIn p k ms g r n (s.passes v) (t.passes (beside ss v))
    pub throws_so : (v : World) (ss : List Statics) (y : ℕ) → BesideIn p k ms g r v ss → IsObject (length v.heap) y → v.depth ≡ d → ReachesIn p k ms g r n (s.throws v y) (t.throws (beside ss v) y)
    pub makes_so : MakesAlike x s t fs fs' n d
    pub stops_so : (v : World) (ss : List Statics) → BesideIn p k ms g r v ss → ReachesIn p k ms g r n (s.stops v) (t.stops (beside ss v))

  -- A failure is reported outside alike, by whichever frames, and what follows its reply is alike.
  abbrev pub FailsAlike : Type 0
  FailsAlike =
      (n d : ℕ) (heap : List Object) (x : Failure) (s t : Sequel) (fs fs' : List Frame) → AlikeSequels n d heap x s t fs fs' → (w : World) (ss : List Statics) → BesideIn p k ms g r w ss → w.depth ≡ d → w.heap ≡ heap
      → ReachesIn p k ms g r n (failing p g k.settings.throwing x s fs w) (failing (written p k ms g r) g k.settings.throwing x t fs' (beside ss w))

  -- a frame in a piece, with what its group needs when it is over
  pub record InPiece (c : Plan) (gr : Group) (j q : ℕ) (x : Piece) (h : Frame) (ex : List Cell) (b' : Continuation) (fs fs' : List Frame) (w : World) (ss : List Statics) : Type 0 where
    pub plan : plan_at k p h.method ≡ Some c
    pub at : h.at ≡ InGroup gr j q
    pub piece : piece_at (Some c) gr j ≡ Some x
    pub here : IsHere (plan_at k p h.method) h.at
    pub stands : Standing p k ms g r h fs
    pub stays : StaysIn p k (written p k ms g r) g r.types r.depths c gr h h.local.result
    pub keeps : Keeps (r.marks h.method) (here_of h fs) h.thrown h.local ex
    pub bare : h.handling ≡ []
    pub under : Under p k ms g r h.continuation b' fs fs'
    pub others : AllStand p k ms g r fs
    pub fine_back : WellFormedContinuation (bounds p k ms g r) h.continuation
    pub alike : BesideIn p k ms g r w ss
    pub deep : w.depth ≤ suc k.settings.guard
    pub count : w.depth ≡ 1 + count_groups fs
    pub heap : WellFormedObjects (bounds p k ms g r) w.heap
    -- what it throws, and what its constructor's caller throws, are objects
    pub thrown : ObjectIf (length w.heap) h.thrown
    pub back : BackThere (length w.heap) h.continuation
    pub named : ReturnsAsNamed p h

  -- the frame's twin at a new place, with no handler that runs
  abbrev pub twin_at : Frame → Local → List Cell → ℕ → Continuation → Frame
  twin_at h l ex q b' = twin p k (written p k ms g r) g r.types r.depths h l ex q [] b'

  -- what the plain run does at the end of a clause: it goes on at a place, throws at the seam, or makes an exception at another place of it
  abbrev pub new_sequel : Frame → List Frame → Continuation → Local → List Cell → (seam maker on : ℕ) → Sequel
  new_sequel h fs' b' l after seam maker on =
      record {
        passes = λ v. Running (record { frames = twin_at h l after on b' ∷ fs'; world = v });
        throws = λ v y. unwind (written p k ms g r) no_contracts false (twin_at h l after seam b' ∷ fs') v y;
        makes = λ v ty c values. make (written p k ms g r) no_contracts (pushes_new (written p k ms g r) no_contracts) ty c values (twin_at h l after maker b' ∷ fs') v;
        stops = λ v. stuck v;
      }

  -- and the run with contracts: the piece is over, or the frame throws
  abbrev pub old_sequel : Plan → Group → ℕ → Frame → Local → List Frame → Sequel
  old_sequel c gr j h l fs = goes_on_from p k (record h { local = l } ∷ fs) (λ v. piece_over p k c gr j (with_local l h) fs v)

  abbrev pub failure_of : Frame → List Frame → Piece → Condition → Failure
  failure_of h fs x o = clause_failure p k (written p k ms g r) g r.types r.depths h fs x o.user

  -- how many steps follow a condition, in a frame over n others
  abbrev pub ending : ℕ → ℕ
  ending n = 4 * cost k p + per_frame p k ms g r (suc (suc n))

  -- The condition that ends a clause is there: it holds and the piece is over in both runs, or it fails in both. The exception of Requires<E> is a premise.
  abbrev pub ClausesEndAlike : Type 0
  ClausesEndAlike =
      (c : Plan) (gr : Group) (j q : ℕ) (x : Piece) (h : Frame) (ex : List Cell) (b' : Continuation) (fs fs' : List Frame) (w : World) (ss : List Statics) (o : Condition) → InPiece c gr j q x h ex b' fs fs' w ss
      → (ch : Checked p k (written p k ms g r) g r.types r.depths (r.marks h.method) h fs fs' w ex ss b' [] (failure_of h fs x o) o.holds o.rest ((r.marks h.method).behind gr j))
      → MakesAlike (failure_of h fs x o) (old_sequel c gr j h (with_stack h.local o.rest) fs) (new_sequel h fs' b' (with_stack h.local o.rest) ch.after ch.seam ch.maker ((r.marks h.method).behind gr j)) (record h { local = with_stack h.local o.rest } ∷ fs) fs' (ending (length fs)) w.depth
      → AnswersIn p k ms g r (failure_cost k p + ending (length fs)) (check p k g (failure_of h fs x o) o.holds (record h { local = with_stack h.local o.rest } ∷ fs) w (λ v. piece_over p k c gr j (with_local (with_stack h.local o.rest) h) fs v))
      (from_here p k (written p k ms g r) g r.types r.depths (r.marks h.method) h ex b' fs' w ss [])
