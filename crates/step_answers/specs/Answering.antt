-- A step of the run with contracts, and what the plain run does for it.
use Rattle.std.specs.Prelude.{◌≡◌, ◌+◌, List, ◌∷◌, length, Some}
use Rattle.cil_model.specs.declared.body.Instr.{Instr}
use Rattle.cil_model.specs.declared.contract.Contracts.{Contracts}
use Rattle.cil_model.specs.declared.program.Program.{Program}
use Rattle.cil_model.specs.declared.program.MethodDesc.{MethodDesc}
use Rattle.cil_semantics.specs.declared.state.World.{World}
use Rattle.cil_semantics.specs.declared.state.Statics.{Statics}
use Rattle.cil_semantics.specs.declared.state.Frame.{Frame}
use Rattle.cil_semantics.specs.State.{Running, unrecorded}
use Rattle.cil_semantics.specs.Unwind.{plan_at, here_of}
use Rattle.cil_semantics.specs.Instructions.{act}
use Rattle.cil_semantics.specs.Checks.{AddedNumbers}
use Rattle.cil_semantics.specs.Machine.{step}
use Rattle.machine_laws.specs.Same.{bound_of}
use Rattle.splice_facts.specs.Exceptions.{ObjectIf, BackThere, ThrowsObject}
use Rattle.splice_facts.specs.Grown.{beside}
use Rattle.splice_facts.specs.Layout.{fetch}
use Rattle.splice_facts.specs.Related.{Rewritten, AnswersIn, Frames, laid_by}
use Rattle.simulation_steps.specs.Steps.{BesideIn}
use Rattle.simulation_valid.specs.Keeping.{Sound}

module _ (p : Program) (k : Contracts) (ms : List MethodDesc) (g : AddedNumbers) (r : Rewritten p k ms g) where
  -- What the topmost frame throws, looks at or makes, and what its handlers keep, are objects that are there.
  pub record ObjectsThere (f : Frame) (fs : List Frame) (w : World) : Type 0 where
    pub thrown : ObjectIf (length w.heap) f.thrown
    pub back : BackThere (length w.heap) f.continuation
    pub throws : (i : Instr) → fetch p k g (plan_at k p f.method) f.method f.at ≡ Some i → ThrowsObject (length w.heap) f.handling (act p (here_of f fs) i (unrecorded w) f.local)

  -- From related states, the first a sound one, a step is answered by the plain run in at least one step, and in so many with what is laid by.
  abbrev pub StepsAnswered : Type 0
  StepsAnswered =
      (f f' : Frame) (fs fs' : List Frame) (w : World) (ss : List Statics) → Frames p k ms g r (f ∷ fs) (f' ∷ fs') → BesideIn p k ms g r w ss → Sound p k ms g r (record { frames = f ∷ fs; world = w }) → ObjectsThere f fs w
      → AnswersIn p k ms g r (bound_of k p + laid_by p k ms g r (record { frames = f ∷ fs; world = w })) (step p k g (record { frames = f ∷ fs; world = w })) (Running (record { frames = f' ∷ fs'; world = beside ss w }))
