-- What the two runs do alike: arriving at a place, and pushing a value in the frame below.
use Rattle.std.specs.Prelude.{◌≡◌, ℕ, suc, ◌+◌, ◌<◌, ◌≤◌, List, length, Option}
use Rattle.cil_model.specs.declared.value.Value.{Value}
use Rattle.cil_model.specs.declared.contract.Contracts.{Contracts}
use Rattle.cil_model.specs.declared.program.Program.{Program}
use Rattle.cil_model.specs.declared.program.MethodDesc.{MethodDesc}
use Rattle.cil_model.specs.NoContracts.{no_contracts}
use Rattle.cil_semantics.specs.declared.state.Cell.{Cell}
use Rattle.cil_semantics.specs.declared.state.World.{World}
use Rattle.cil_semantics.specs.declared.state.Statics.{Statics}
use Rattle.cil_semantics.specs.declared.state.Local.{Local}
use Rattle.cil_semantics.specs.declared.state.ProgramPoint.{ProgramPoint}
use Rattle.cil_semantics.specs.declared.state.ProgramPoint.TheVariants.{Rest}
use Rattle.cil_semantics.specs.declared.state.Handling.{Handling}
use Rattle.cil_semantics.specs.declared.state.Frame.{Frame}
use Rattle.cil_semantics.specs.declared.state.Continuation.{Continuation}
use Rattle.cil_semantics.specs.Unwind.{body_of, plan_at, here_of, goes_at, arrive_in}
use Rattle.cil_semantics.specs.Returns.{push_below}
use Rattle.cil_semantics.specs.Checks.{AddedNumbers}
use Rattle.splice_facts.specs.Grown.{grow, beside}
use Rattle.splice_facts.specs.Layout.{Keeps, CanArrive}
use Rattle.splice_facts.specs.Spliced.{Beside, FitsGroup, twin, cost}
use Rattle.splice_facts.specs.Related.{Rewritten, written, ReachesIn, per_frame, Under, Waits, FitsAt, IsCommon, AllStand}

module _ (p : Program) (k : Contracts) (ms : List MethodDesc) (g : AddedNumbers) (r : Rewritten p k ms g) where
  -- A frame arrives at a place where it may, and its twin at the image: at the end of the lead-in the entry group begins or is passed over in both.
  abbrev pub ArrivesAlike : Type 0
  ArrivesAlike =
      (f : Frame) (at : ProgramPoint) (l l0 : Local) (ex : List Cell) (hs hs' hs0 : List Handling) (q0 : ℕ) (b : Continuation) (fs fs' : List Frame) (w : World) (ss : List Statics) → f.method < r.methods → CanArrive (plan_at k p f.method) at → FitsAt (FitsGroup p k (written p k ms g r) g r.types r.depths) at f.thrown → Keeps (r.marks f.method) (here_of f fs) f.thrown l ex
      → Waits (plan_at k p f.method) (r.marks f.method) (length (body_of p f.method).regions) at hs hs' → Beside p k (written p k ms g r) g r.types r.depths w ss → length fs' ≡ length fs → w.depth ≤ suc k.settings.guard → Under p k ms g r f.continuation b fs fs'
      → ReachesIn p k ms g r (cost k p + per_frame p k ms g r (suc (length fs))) (arrive_in p (plan_at k p f.method) f at l hs fs w)
      (goes_at (written p k ms g r) (twin p k (written p k ms g r) g r.types r.depths f l0 ex q0 hs0 b) (Rest ((r.marks f.method).places at)) (grow ex l) hs' fs' (beside ss w))

  -- The value of a call, if it has one, is pushed in the frame that waits for it, which goes on; with no frame left both runs are over.
  abbrev pub PushesAlike : Type 0
  PushesAlike =
      (b b' : Continuation) (v : Option Value) (fs fs' : List Frame) (w : World) (ss : List Statics) → IsCommon p k ms g r b → Under p k ms g r b b' fs fs' → AllStand p k ms g r fs → Beside p k (written p k ms g r) g r.types r.depths w ss → w.depth ≤ suc k.settings.guard
      → ReachesIn p k ms g r (cost k p + per_frame p k ms g r (length fs)) (push_below p k v fs w) (push_below (written p k ms g r) no_contracts v fs' (beside ss w))
