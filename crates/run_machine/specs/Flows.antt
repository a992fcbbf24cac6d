-- A run that goes on with frames and a world, or is over (ECMA-335, I.12.3).
use Rattle.std.specs.Prelude.{List}
use Rattle.cil_semantics.specs.declared.Frame.{Frame}
use Rattle.cil_semantics.specs.declared.World.{World}
use Rattle.cil_semantics.specs.State.{Next, Running, Ended}
use Rattle.run_machine.specs.declared.flow.Flow.{Flow}
use Rattle.run_machine.specs.declared.flow.Flow.TheVariants as flow

-- where it is over the frames say nothing
abbrev pub next_of : Flow → List Frame → World → Next
next_of flow.Running fs w = Running (record { frames = fs; world = w })
next_of (flow.Ended o) fs w = Ended o w
