-- What an assembly says of a name, and what is found where the next one is asked.
use Rattle.std.specs.Prelude.{ℕ, Option}
use Rattle.set_program.specs.declared.identity.TypeId.{TypeId}
use Rattle.set_program.specs.declared.references.Step.{Step}
use Rattle.set_program.specs.declared.references.Step.TheVariants.{Done, Asks}

abbrev pub step_to : (ℕ → Option TypeId) → Step → Option TypeId
step_to go (Done id) = id
step_to go (Asks a) = go a
