-- Where the handlers of a frame are given beside it, those in it aren't looked at.
use Rattle.std.proofs.Common.{◌≡◌, ◌∙◌, ap, refl, ℕ, ◌+◌, List, [], Option, Some, None}
use Rattle.std.specs.Prelude.{◌==◌, if◌then◌else◌}
use Rattle.cil_model.specs.declared.contract.Contracts.{Contracts}
use Rattle.cil_model.specs.declared.body.Region.{Region}
use Rattle.cil_model.specs.declared.contract.Group.{Group}
use Rattle.cil_model.specs.declared.contract.Group.TheVariants as group
use Rattle.cil_model.specs.declared.program.Program.{Program}
use Rattle.cil_semantics.specs.Contracted.{Piece, Plan, runs_at}
use Rattle.cil_semantics.specs.State.{Next, lowered, raised, with_local, with_stack}
use Rattle.cil_semantics.specs.Unwind.{Below, Found, NoHandler, CatchHandler, CleanupHandler, after_entry_piece, arrive_in, begin_entry, begin_first, begin_group, begin_piece, begin_rest, body_of, drops, ends_frame, go_to_rest, goes_at, land, leave_through, left_from, moved_to, next_piece, no_handler_left, piece_at, plan_at, resume_cause, searched, throws_in, unwind}
use Rattle.cil_semantics.specs.declared.Cause.{Cause}
use Rattle.cil_semantics.specs.declared.Cause.TheVariants.{Caught, Unwinding, Leaving}
use Rattle.cil_semantics.specs.declared.Frame.{Frame}
use Rattle.cil_semantics.specs.declared.Handling.{Handling}
use Rattle.cil_semantics.specs.declared.Local.{Local}
use Rattle.cil_semantics.specs.declared.ProgramPoint.{ProgramPoint}
use Rattle.cil_semantics.specs.declared.ProgramPoint.TheVariants.{LeadIn, InGroup, Rest}
use Rattle.cil_semantics.specs.declared.World.{World}

abbrev handling : List Handling → Frame → Frame
handling hs f = record f { handling = hs }

module _ (p : Program) (hs : List Handling) where
  piece_same : (g : Group) (o : Option (ℕ × Piece)) (f : Frame) (fs : List Frame) (w : World) (over : Next) → begin_piece p g o (handling hs f) fs w over ≡ begin_piece p g o f fs w over
  piece_same g None f fs w over = refl
  piece_same g (Some x) f fs w over = refl

  group_same : (k : Plan) (g : Group) (f : Frame) (fs : List Frame) (w : World) (over : Next) → begin_group p k g (handling hs f) fs w over ≡ begin_group p k g f fs w over
  group_same k g f fs w over = ap (λ (r : Next). if runs_at k g w.depth then r else over) (piece_same g (next_piece p k g 0 f fs w) f fs (raised w) over)

  entry_piece_same : (k : Plan) (i : ℕ) (f : Frame) (fs : List Frame) (w : World) → after_entry_piece p k i (handling hs f) fs w ≡ after_entry_piece p k i f fs w
  entry_piece_same k i f fs w = piece_same group.Entry (next_piece p k group.Entry (i + 1) f fs w) f fs w (begin_rest p k f fs (lowered w))

  left_same : (plan : Option Plan) (f : Frame) (at : ProgramPoint) (fs : List Frame) (w : World) (x : ℕ) (below : Below) → no_handler_left p plan (handling hs f) at fs w x below ≡ no_handler_left p plan f at fs w x below
  left_same None f at fs w x below = refl
  left_same (Some k) f (LeadIn q) fs w x below = refl
  left_same (Some k) f (InGroup g i q) fs w x below =
      ap (λ (r : Next). if drops (piece_at (Some k) g i) then r else ends_frame p f.initializes f.continuation (lowered w) x below) (entry_piece_same k i f fs w)
  left_same (Some k) f (Rest q) fs w x below = group_same k group.Throw (record f { thrown = Some x }) fs w (ends_frame p f.initializes f.continuation w x below)

  searched_same : (f : Frame) (w : World) (x skip q : ℕ) (at : ProgramPoint) → searched p (handling hs f) w x skip q at ≡ searched p f w x skip q at
  searched_same f w x skip q (LeadIn a) = refl
  searched_same f w x skip q (InGroup g i a) = refl
  searched_same f w x skip q (Rest a) = refl

  first_same : (k : Plan) (o : Option (ℕ × Piece)) (f : Frame) (fs : List Frame) (w : World) → begin_first p k o (handling hs f) fs w ≡ begin_first p k o f fs w
  first_same k None f fs w = refl
  first_same k (Some x) f fs w = refl

  entry_same : (k : Plan) (f : Frame) (fs : List Frame) (w : World) → begin_entry p k (handling hs f) fs w ≡ begin_entry p k f fs w
  entry_same k f fs w = ap (λ (r : Next). if runs_at k group.Entry w.depth then r else go_to_rest p k f fs w) (first_same k (next_piece p k group.Entry 0 f fs w) f fs w)

  arrive_same : (plan : Option Plan) (f : Frame) (at : ProgramPoint) (l : Local) (js : List Handling) (fs : List Frame) (w : World) → arrive_in p plan (handling hs f) at l js fs w ≡ arrive_in p plan f at l js fs w
  arrive_same None f at l js fs w = refl
  arrive_same (Some k) f (LeadIn q) l js fs w =
      ap (λ (r : Next). if q == k.effective.lead_end then r else goes_at p f (LeadIn q) l js fs w) (entry_same k (with_local l f) fs w)
  arrive_same (Some k) f (InGroup g i q) l js fs w = refl
  arrive_same (Some k) f (Rest q) l js fs w = refl

module _ (p : Program) (k : Contracts) (hs : List Handling) where
  land_same : (found : Found) (f : Frame) (js : List Handling) (q : ℕ) (fs : List Frame) (w : World) (x : ℕ) (below : Below) → land p k found (handling hs f) js q fs w x below ≡ land p k found f js q fs w x below
  land_same NoHandler f js q fs w x below = left_same p hs (plan_at k p f.method) f f.at fs w x below
  land_same (CatchHandler i t) f js q fs w x below = refl
  land_same (CleanupHandler i t) f js q fs w x below = refl

  throws_same : (f : Frame) (js : List Handling) (skip q : ℕ) (fs : List Frame) (w : World) (x : ℕ) (below : Below) → throws_in p k (handling hs f) js skip q fs w x below ≡ throws_in p k f js skip q fs w x below
  throws_same f js skip q fs w x below =
      ap (λ (s : Found). land p k s (handling hs f) js q fs w x below) (searched_same p hs f w x skip q f.at) ∙ land_same (searched p f w x skip q f.at) f js q fs w x below

  through_same : (o : Option (ℕ × Region)) (f : Frame) (js : List Handling) (q t : ℕ) (fs : List Frame) (w : World) → leave_through p k o (handling hs f) js q t fs w ≡ leave_through p k o f js q t fs w
  through_same None f js q t fs w = arrive_same p hs (plan_at k p f.method) f (moved_to t f.at) (with_stack f.local []) js fs w
  through_same (Some x) f js q t fs w = refl

  cause_same : (h : Handling) (why : Cause) (f : Frame) (js : List Handling) (fs : List Frame) (w : World) → resume_cause p k h why js (handling hs f) fs w ≡ resume_cause p k h why js f fs w
  cause_same h (Caught x) f js fs w = refl
  cause_same h (Unwinding x) f js fs w = throws_same f js h.next h.place fs w x (λ skip v y. unwind p k skip fs v y)
  cause_same h (Leaving t) f js fs w = through_same (left_from h.next 0 h.place t (body_of p f.method).regions) f js h.place t fs w

-- the end of a handler, where the frame has only the others
pub resumed : (p : Program) (k : Contracts) (h : Handling) (hs : List Handling) (f : Frame) (fs : List Frame) (w : World) → resume_cause p k h h.cause hs (record f { handling = hs }) fs w ≡ resume_cause p k h h.cause hs f fs w
resumed p k h hs f fs w = cause_same p k hs h h.cause f hs fs w
