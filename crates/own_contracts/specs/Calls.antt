-- Contract calls among instructions (Code Contracts User Manual, section 2).
use Rattle.std.specs.Prelude.{Bool, true, false, List}
use Rattle.std.specs.List.{list_any}
use Rattle.cil_model.specs.declared.body.Instr.{Instr}
use Rattle.cil_model.specs.declared.program.Program.{Program}
use Rattle.cil_semantics.specs.declared.contract_call.ContractCall.{ContractCall}
use Rattle.cil_semantics.specs.declared.contract_call.ContractCall.TheVariants.{NoContractCall}
use Rattle.cil_semantics.specs.ContractCalls.{contract_call}

abbrev pub is_call : ContractCall → Bool
is_call NoContractCall = false
is_call _ = true

-- one of the instructions is a contract call
abbrev pub has_call : Program → List Instr → Bool
has_call p is = list_any (λ i. is_call (contract_call p i)) is
