-- The program with one precondition, as it is before the runtime class is appended to it.
use Rattle.std.specs.Prelude.{[], ◌∷◌, take}
use Rattle.cil_model.specs.declared.program.Meaning.TheVariants.{OfMethod}
use Rattle.cil_model.specs.declared.program.Program.{Program}
use Rattle.cil_semantics.specs.Core.{class_named, contract_name}
use Rattle.splice_rows.specs.OneRequires.{token, a_row, input}

-- its class and Contract, their methods, and the token by which Requires is called
abbrev pub original : Program
original = record { types = take 2 input.types; fields = []; methods = take 2 input.methods; tokens = a_row (token 10 1) (OfMethod (class_named contract_name) 1 []) ∷ [] }
