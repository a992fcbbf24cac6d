-- What a contract call does in a contract block (Code Contracts User Manual, section 2).
use Rattle.std.specs.Prelude.{Bool, true, false, Option, Some, None}
use Rattle.cil_model.specs.declared.contract.ClauseKind.{ClauseKind}
use Rattle.cil_semantics.specs.declared.contract_call.ContractCall.{ContractCall}
use Rattle.cil_semantics.specs.declared.contract_call.ContractCall.TheVariants.{EndsClause, EndsBlock, Abbreviates, GivesResult, ReadsArgument, TakesOld, ChecksHere}

-- a call that ends a segment
abbrev pub is_prefix : ContractCall → Bool
is_prefix (EndsClause k) = true
is_prefix EndsBlock = true
is_prefix Abbreviates = true
is_prefix _ = false

-- EndContractBlock
abbrev pub ends_block : ContractCall → Bool
ends_block EndsBlock = true
ends_block _ = false

abbrev pub ended_kind : ContractCall → Option ClauseKind
ended_kind (EndsClause k) = Some k
ended_kind _ = None

abbrev pub checked_kind : ContractCall → Option ClauseKind
checked_kind (ChecksHere k) = Some k
checked_kind _ = None

abbrev pub is_result : ContractCall → Bool
is_result GivesResult = true
is_result _ = false

abbrev pub is_old : ContractCall → Bool
is_old TakesOld = true
is_old _ = false

-- OldValue and ValueAtReturn
abbrev pub is_of_postcondition : ContractCall → Bool
is_of_postcondition TakesOld = true
is_of_postcondition ReadsArgument = true
is_of_postcondition _ = false
