-- Whole runs of an entry: the plain run of the written program ends as the run with contracts does and tells the same.
use Rattle.std.specs.Prelude.{◌≡◌, ℕ, ◌<◌, List, ◌∷◌}
use Rattle.cil_model.specs.declared.value.Value.{Value}
use Rattle.cil_model.specs.declared.run.Reply.{Reply}
use Rattle.cil_model.specs.declared.contract.Contracts.{Contracts}
use Rattle.cil_model.specs.declared.program.Program.{Program}
use Rattle.cil_model.specs.declared.program.MethodDesc.{MethodDesc}
use Rattle.cil_model.specs.NoContracts.{no_contracts}
use Rattle.cil_semantics.specs.declared.state.Frame.{Frame}
use Rattle.cil_semantics.specs.State.{State, Running, unrecorded}
use Rattle.cil_semantics.specs.Checks.{AddedNumbers}
use Rattle.cil_semantics.specs.Machine.{step, runs, start}
use Rattle.machine_laws.specs.Same.{IsEntry, bound_of, plain_step}
use Rattle.machine_laws.specs.Simulation.{Lifted}
use Rattle.splice_facts.specs.Related.{Rewritten, AlikeWorlds, written}

-- None is over at once: the arguments fit, and no initializer has failed (ECMA-335, II.10.5.3).
abbrev pub EntriesBegin : Type 0
EntriesBegin = (p : Program) (k : Contracts) (m : ℕ) (args : List Value) (rs : List Reply) → IsEntry p m args → (s : State) × (start p k m args rs ≡ Running s)

module _ (p : Program) (k : Contracts) (ms : List MethodDesc) (g : AddedNumbers) (r : Rewritten p k ms g) where
  -- From its first state on a run is answered whole: both end alike or go on, and what one tells the other tells too, within the bound on steps.
  abbrev pub AnsweredWhole : ℕ → List Value → List Reply → State → Type 0
  AnsweredWhole m args rs s = (t : State) × (start (written p k ms g r) no_contracts m args rs ≡ Running t) × Lifted (step p k g) (plain_step (written p k ms g r)) (AlikeWorlds r.types) (bound_of k p) s t

  -- A run of an entry begins, and is answered whole.
  abbrev pub RunsAnswered : Type 0
  RunsAnswered = (m : ℕ) (args : List Value) (rs : List Reply) → m < r.methods → IsEntry p m args → (s : State) × (start p k m args rs ≡ Running s) × AnsweredWhole m args rs s
