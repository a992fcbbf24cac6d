-- Which contract call an instruction is: a member of Contract by its name and parameters, or an abbreviator (Code Contracts User Manual, sections 2 and 6).
-- It is known by its token's own meaning: what stands for type parameters makes no call one.
use Rattle.std.specs.Prelude.{ℕ, Bool, true, false, ◌&&◌, ◌+◌, ◌==◌, bytes_eq, List, [], ◌∷◌, length, Option, Some, codes, if◌then◌else◌}
use Rattle.cil_model.specs.declared.ty.Ty.{Ty, out-Ty}
use Rattle.cil_model.specs.declared.ty.Ty.TheOpen.{Ty-F}
use Rattle.cil_model.specs.declared.body.Instr.{Instr}
use Rattle.cil_model.specs.declared.contract.ClauseKind.TheVariants as kind
use Rattle.cil_model.specs.declared.program.Program.{Program}
use Rattle.cil_model.specs.declared.program.MethodDesc.{MethodDesc}
use Rattle.cil_model.specs.declared.program.Meaning.{Meaning}
use Rattle.cil_model.specs.declared.program.Meaning.TheVariants.{OfMethod}
pub use Rattle.cil_semantics.specs.declared.contract_call.ContractCall.{ContractCall}
pub use Rattle.cil_semantics.specs.declared.contract_call.ContractCall.TheVariants.{EndsClause, EndsBlock, Abbreviates, GivesResult, ReadsArgument, TakesOld, ChecksHere, NoContractCall}
use Rattle.cil_semantics.specs.Types.{Layer, is_prim, is_mvar, is_by_ref, is_empty}
use Rattle.cil_semantics.specs.Core.{Name, contract_name}
use Rattle.cil_semantics.specs.Lookups.{method_of, type_of}
use Rattle.cil_semantics.specs.Tokens.{own_meaning}

abbrev pub is_bool : Ty → Bool
is_bool t = is_prim 0x02 (out-Ty t)

abbrev pub is_string : Ty → Bool
is_string t = is_prim 0x0E (out-Ty t)

-- the method's first own type parameter
abbrev pub is_own : Ty → Bool
is_own t = is_mvar 0 (out-Ty t)

abbrev pub is_own_by_ref : Ty → Bool
is_own_by_ref t = is_by_ref is_own (out-Ty t)

-- a condition, or a condition and a message
abbrev pub takes_condition : List Ty → Bool
takes_condition (t ∷ []) = is_bool t
takes_condition (t ∷ u ∷ []) = is_bool t && is_string u
takes_condition _ = false

abbrev pub takes_one : (Ty → Bool) → List Ty → Bool
takes_one test (t ∷ []) = test t
takes_one test _ = false

-- a name, and so many type parameters
abbrev pub is_called : MethodDesc → Name → ℕ → Bool
is_called d name generics = bytes_eq d.name name && (d.generics == generics)

abbrev pub condition_call : MethodDesc → ContractCall
condition_call d =
    if is_called d (codes "Requires") 0 then EndsClause kind.Requires
    else if is_called d (codes "Requires") 1 then EndsClause kind.RequiresOf
    else if is_called d (codes "Ensures") 0 then EndsClause kind.Ensures
    else if is_called d (codes "EnsuresOnThrow") 1 then EndsClause kind.Throws
    else if is_called d (codes "Invariant") 0 then EndsClause kind.Invariant
    else if is_called d (codes "Assert") 0 then ChecksHere kind.Assert
    else if is_called d (codes "Assume") 0 then ChecksHere kind.Assume
    else NoContractCall

abbrev pub other_call : MethodDesc → ContractCall
other_call d =
    if is_called d (codes "EndContractBlock") 0 && is_empty d.params then EndsBlock
    else if is_called d (codes "Result") 1 && is_empty d.params then GivesResult
    else if is_called d (codes "OldValue") 1 && takes_one is_own d.params then TakesOld
    else if is_called d (codes "ValueAtReturn") 1 && takes_one is_own_by_ref d.params then ReadsArgument
    else NoContractCall

abbrev pub member_call : MethodDesc → ContractCall
member_call d = if takes_condition d.params then condition_call d else other_call d

abbrev pub abbreviator_call : Program → Option Meaning → ContractCall
abbreviator_call p (Some (OfMethod owner m args)) = if (method_of p m).abbreviator then Abbreviates else NoContractCall
abbreviator_call p _ = NoContractCall

-- the class of contract members, in the set or outside
abbrev pub is_contract : Program → Layer → Bool
is_contract p (Ty-F.Known k) = bytes_eq (type_of p k).name contract_name
is_contract p (Ty-F.Outside name value) = bytes_eq name contract_name
is_contract p (Ty-F.Inst k args) = bytes_eq (type_of p k).name contract_name
is_contract p _ = false

abbrev pub static_call : Program → Option Meaning → ContractCall
static_call p (Some (OfMethod owner m args)) =
    if is_contract p (out-Ty owner) then member_call (method_of p m) else abbreviator_call p (Some (OfMethod owner m args))
static_call p _ = NoContractCall

-- Members of Contract are called by call, abbreviators by call or callvirt (ECMA-335, III.3.19 and III.4.2).
unfoldable pub contract_call : Program → Instr → ContractCall
contract_call p i =
    if i.op == 0x28 then static_call p (own_meaning p i.operand)
    else if i.op == 0x6F then abbreviator_call p (own_meaning p i.operand)
    else NoContractCall

abbrev pub meant_params : Program → Option Meaning → List Ty
meant_params p (Some (OfMethod owner m args)) = (method_of p m).params
meant_params p _ = []

-- the call takes a message besides its condition
abbrev pub has_message : Program → Instr → Bool
has_message p i = length (meant_params p (own_meaning p i.operand)) == 2

abbrev pub is_check : ContractCall → Bool
is_check (ChecksHere c) = true
is_check _ = false

-- how many Assert and Assume calls stand among instructions
abbrev pub count_checks : Program → List Instr → ℕ
count_checks p [] = 0
count_checks p (i ∷ is) = if is_check (contract_call p i) then count_checks p is + 1 else count_checks p is
