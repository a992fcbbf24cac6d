-- The own contract of a method, over the heights that the search finds in its body (Code Contracts User Manual, section 2; ECMA-335, III.1.7.5).
use Rattle.std.specs.Prelude.{◌≡◌, ◌⊎◌, ℕ, Some, None}
use Rattle.cil_base.specs.declared.refusal.Refusal.{Refusal}
use Rattle.cil_base.specs.Refusals.{InTurn, first_of}
use Rattle.cil_model.specs.declared.body.Body.{Body}
use Rattle.cil_model.specs.declared.contract.Contract.{Contract}
use Rattle.cil_model.specs.declared.program.Program.{Program}
use Rattle.cil_semantics.specs.Lookups.{method_of}
use Rattle.cil_semantics.specs.Unwind.{body_of}
use Rattle.il_flow.specs.declared.answer.Heights.{Heights}
use Rattle.il_flow.specs.Effects.{effect_of}
use Rattle.il_flow.specs.Meanings.{BreaksMeaning}
use Rattle.il_flow.specs.Methods.{HasHeights, BreaksHeights, place_of}
use Rattle.contract_parts.specs.Flow.{Code}
use Rattle.contract_extract.specs.OwnContract.{own_contract}
use Rattle.contract_extract.specs.Rules.{tests}

-- a body of a method with what was found of its stack
abbrev pub code_with : Program → ℕ → Body → Heights → Code
code_with p m b found = record { program = p; method = m; body = b; heights = found.heights; reached = found.reached }

-- the method's body with what was found of its stack
abbrev pub method_code : Program → ℕ → Heights → Code
method_code p m found = code_with p m (body_of p m) found

-- The search finds this in the method's body.
abbrev pub FindsHeights : Program → ℕ → Heights → Type 0
FindsHeights p m found = HasHeights p (method_of p m) (place_of (method_of p m)) (body_of p m) found

-- The method's body has heights, breaks no rule on contract blocks, and this is what its block says.
abbrev pub HasContract : Program → ℕ → Contract → Type 0
HasContract p m contract =
    (found : Heights) × FindsHeights p m found × (contract ≡ own_contract (method_code p m found)) × (first_of (tests (method_code p m found)) ≡ None)

-- The method's body has heights, and this is the first rule on contract blocks that it breaks.
abbrev pub BreaksBlock : Program → ℕ → Refusal → Type 0
BreaksBlock p m r = (found : Heights) × FindsHeights p m found × (first_of (tests (method_code p m found)) ≡ Some r)

-- the rule on heights that the method's body breaks, where it has none
abbrev pub LacksHeights : Program → ℕ → Refusal → Type 0
LacksHeights p m r =
    InTurn (BreaksMeaning p (method_of p m) (place_of (method_of p m)) (body_of p m)) (BreaksHeights (effect_of p (method_of p m)) (place_of (method_of p m)) (body_of p m)) r

-- The first rule that the method's body breaks: on tokens and heights, and where it has heights on contract blocks.
abbrev pub BreaksContract : Program → ℕ → Refusal → Type 0
BreaksContract p m r = LacksHeights p m r ⊎ BreaksBlock p m r
