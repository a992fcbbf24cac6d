-- A step of the run with contracts: what is asked of its state besides, and that what it comes to is valid.
use Rattle.std.specs.Prelude.{◌≡◌, List, ◌∷◌, Option, Some, None}
use Rattle.cil_model.specs.declared.body.Instr.{Instr}
use Rattle.cil_model.specs.declared.contract.Contracts.{Contracts}
use Rattle.cil_model.specs.declared.program.Program.{Program}
use Rattle.cil_model.specs.declared.program.MethodDesc.{MethodDesc}
use Rattle.cil_model.specs.declared.program.Meaning.{Meaning}
use Rattle.cil_model.specs.declared.program.Meaning.TheVariants.{OfMethod}
use Rattle.cil_model.specs.declared.ty.Ty.{Ty}
use Rattle.cil_model.specs.declared.value.Value.{Value}
use Rattle.cil_semantics.specs.Acts.{dynamic_type}
use Rattle.cil_semantics.specs.Calls.{body_seen}
use Rattle.cil_semantics.specs.Dispatch.{Seen}
use Rattle.cil_semantics.specs.Lookups.{args_of}
use Rattle.cil_semantics.specs.Tokens.{meaning_here, constrained_here}
use Rattle.splice_facts.specs.WellFormed.{NoneVoid}
use Rattle.il_opcodes.specs.Opcodes.{class_of}
use Rattle.il_opcodes.specs.declared.class.Class.TheVariants as class
use Rattle.cil_semantics.specs.Unwind.{plan_at, here_of}
use Rattle.cil_semantics.specs.Checks.{AddedNumbers}
use Rattle.cil_semantics.specs.Machine.{step}
use Rattle.cil_semantics.specs.State.{unrecorded}
use Rattle.cil_semantics.specs.declared.state.Frame.{Frame}
use Rattle.cil_semantics.specs.declared.state.World.{World}
use Rattle.splice_facts.specs.Layout.{fetch}
use Rattle.splice_facts.specs.Related.{Rewritten, HasHeight}
use Rattle.simulation_valid.specs.Keeping.{StaysValid}
use Rattle.simulation_valid.specs.Steps.{RunsHere}

module _ (p : Program) (k : Contracts) (ms : List MethodDesc) (g : AddedNumbers) (r : Rewritten p k ms g) where
  -- Each step from a valid state, wherever its topmost frame stands, comes to a valid one or ends.
  abbrev pub StepsStayValid : Type 0
  StepsStayValid =
      (f : Frame) (fs : List Frame) (w : World) → RunsHere p k ms g r f fs (unrecorded w) → HasHeight p k ms g r f f.at 0 → StaysValid p k ms g r (step p k g (record { frames = f ∷ fs; world = w }))
