-- Runs of the input, in the input and where its tables have grown.
use Rattle.std.specs.Prelude.{◌≡◌, ℕ, List}
use Rattle.cil_model.specs.declared.value.Value.{Value}
use Rattle.cil_model.specs.declared.contract.Contracts.{Contracts}
use Rattle.cil_model.specs.declared.program.Program.{Program}
use Rattle.cil_model.specs.declared.run.Reply.{Reply}
use Rattle.cil_semantics.specs.Checks.{AddedNumbers}
use Rattle.cil_semantics.specs.Machine.{run}
use Rattle.machine_laws.specs.Same.{IsEntry}

-- The runs of the input's entries with its contracts are those of the program with the tables of the output.
abbrev pub RunsAlike : Program → Program → Contracts → AddedNumbers → Type 0
RunsAlike p0 p k g = (m : ℕ) (args : List Value) (rs : List Reply) (n : ℕ) → IsEntry p0 m args → run p0 k g m args rs n ≡ run p k g m args rs n
