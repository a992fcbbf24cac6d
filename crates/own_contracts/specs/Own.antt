-- The own contracts of the methods of a program, and what their bodies break (Code Contracts User Manual, section 2).
use Rattle.std.specs.Prelude.{◌≡◌, ◌<◌, ◌^◌, ℕ, List, [], length, get_or, MatchOption, IsSome}
use Rattle.cil_base.specs.declared.refusal.Refusal.{Refusal}
use Rattle.cil_base.specs.Refusals.{NoneBroken}
use Rattle.cil_model.specs.declared.contract.Contract.{Contract}
use Rattle.cil_model.specs.declared.program.Program.{Program}
use Rattle.cil_semantics.specs.Lookups.{method_of}
use Rattle.cil_semantics.specs.Unwind.{body_of}
use Rattle.contract_extract.specs.Methods.{HasContract, BreaksBlock, LacksHeights}
use Rattle.own_contracts.specs.Order.{BrokenByOne}

-- what a method without a body says
unfoldable pub no_contract : Contract
no_contract = record { lead_end = 0; rest_from = 0; clauses = []; asserts = [] }

-- The own contract of a method; that of one without a body is empty.
abbrev pub IsOwn : Program → ℕ → Contract → Type 0
IsOwn p m contract = MatchOption (method_of p m).body (contract ≡ no_contract) (λ body. HasContract p m contract)

-- the contract with a number
abbrev pub contract_at : List Contract → ℕ → Contract
contract_at contracts m = get_or contracts m no_contract

-- one of each method, in the program's order
pub record AreOwn (p : Program) (contracts : List Contract) : Type 0 where
  pub count : length contracts ≡ length p.methods
  pub each : (m : ℕ) → m < length p.methods → IsOwn p m (contract_at contracts m)

-- the first rule on contract blocks that the body of a method breaks, C1 to C7
abbrev pub BreaksAt : Program → ℕ → Refusal → Type 0
BreaksAt p m r = IsSome (method_of p m).body × BreaksBlock p m r

-- what the body of one of the methods breaks first of them
abbrev pub BreaksOwn : Program → Refusal → Type 0
BreaksOwn p = BrokenByOne (BreaksAt p) (length p.methods)

-- No body breaks I6 or I4.
abbrev pub HaveHeights : Program → Type 0
HaveHeights p = (m : ℕ) → IsSome (method_of p m).body → NoneBroken (LacksHeights p m)

-- no body has 2^31 instructions
abbrev pub AreShort : Program → Type 0
AreShort p = (m : ℕ) → length (body_of p m).instrs < 2 ^ 31
