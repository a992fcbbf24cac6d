-- The check that takes the place of a call of Requires, and where such a call may stand.
use Rattle.std.specs.Prelude.{◌≡◌, ◌⊎◌, ℕ, ◌+◌, ◌-◌, ◌<◌, Bool, true, false, ◌==◌, nat_lt, if◌then◌else◌, List, [], ◌∷◌, ◌++◌, take, drop, get_or, slice_get, ℤ, pos, Option, Some, None, IsTrue, IsFalse}
use Rattle.std.specs.Option.{option_map}
use Rattle.cil_base.specs.declared.token.Token.{Token}
use Rattle.cil_base.specs.declared.rule.Rule.{Rule}
use Rattle.cil_base.specs.declared.rule.Rule.TheVariants.{C1, C2}
use Rattle.cil_base.specs.declared.refusal.Place.{Place}
use Rattle.cil_base.specs.declared.refusal.Refusal.{Refusal}
use Rattle.cil_base.specs.Refusals.{refusal}
use Rattle.cil_model.specs.declared.body.Operand.TheVariants.{Nothing, Int, Target, Tok}
use Rattle.cil_model.specs.declared.body.Instr.{Instr}
use Rattle.cil_model.specs.declared.body.Body.{Body}
use Rattle.cil_model.specs.SmallMeaning.{is_requires}
use Rattle.cil_model.specs.BodyCode.{instr}

-- the failure's member reference
abbrev pub failure_token : Token
failure_token = record { table = 10; row = 2 }

-- Go on at the place where the value isn't 0, and else fail with kind 0.
abbrev pub guard : ℕ → ℕ → List Instr
guard a place = instr 0x3A (Target place) ∷ instr 0x20 (Int (pos 0)) ∷ instr 0x28 (Tok a failure_token) ∷ []

-- a nop where nothing follows, so that the branch over the failure leads to an instruction
abbrev pub filler : List Instr → List Instr
filler [] = instr 0x00 Nothing ∷ []
filler (i ∷ is) = []

-- what takes the place of a call that these instructions follow
abbrev pub check : ℕ → ℕ → List Instr → List Instr
check a place rest = guard a place ++ filler rest

-- the instructions with the check in place of the one at k
abbrev pub spliced : ℕ → List Instr → ℕ → List Instr
spliced a is k = take k is ++ check a (k + 3) (drop (k + 1) is) ++ drop (k + 1) is

-- where the first call of Requires stands
abbrev pub first_call : List Instr → Option ℕ
first_call [] = None
first_call (i ∷ is) = if is_requires i then Some 0 else option_map (λ k. k + 1) (first_call is)

-- how many values an instruction takes and leaves
abbrev pub taken : ℕ → ℕ
taken op = if op == 0x25 then 1 else if op == 0x26 then 1 else if op == 0x28 then 1 else if op == 0x00 then 0 else if op == 0xFE09 then 0 else if op == 0x20 then 0 else 2

abbrev pub left : ℕ → ℕ
left op = if op == 0x25 then 2 else if op == 0x26 then 0 else if op == 0x28 then 0 else if op == 0x00 then 0 else 1

-- The height behind the instructions, from the height before them, if none of them is a ret and no height between two of them is below
-- 0. An instruction that takes more than there is may stand there: it is stuck.
abbrev pub height : ℕ → List Instr → Option ℕ
height h [] = Some h
height h (i ∷ is) = if i.op == 0x2A then None else if nat_lt (h + left i.op) (taken i.op) then None else height (h + left i.op - taken i.op) is

abbrev pub is_one : Option ℕ → Bool
is_one None = false
is_one (Some h) = h == 1

-- ---- the rules

-- Before the first call the height isn't 1, was below 0, or a ret stands.
abbrev pub HeightBreaks : Place → Body → Refusal → Type 0
HeightBreaks place body r =
    (k : ℕ) × (first_call body.instrs ≡ Some k) × IsFalse (is_one (height 0 (take k body.instrs))) × (r ≡ refusal C2 place (get_or body.offsets k 0))

abbrev pub CallsAt : List Instr → ℕ → Type 0
CallsAt is k = (i : Instr) × (slice_get is k ≡ Some i) × IsTrue (is_requires i)

-- A call stands behind the first.
abbrev pub SecondBreaks : Place → Body → Refusal → Type 0
SecondBreaks place body r =
    (k j : ℕ) × (first_call body.instrs ≡ Some k) × (k < j) × CallsAt body.instrs j × (r ≡ refusal C1 place (get_or body.offsets j 0))

-- how the calls of Requires break a rule
abbrev pub CallBreaks : Place → Body → Refusal → Type 0
CallBreaks place body r = HeightBreaks place body r ⊎ SecondBreaks place body r

-- ---- how they are found

-- a second call behind the one at k
abbrev pub second_fault : List Instr → ℕ → Option (Rule × ℕ)
second_fault is k = option_map (λ j. (C1, k + 1 + j)) (first_call (drop (k + 1) is))

abbrev pub fault_at : List Instr → Option ℕ → Option (Rule × ℕ)
fault_at is None = None
fault_at is (Some k) = if is_one (height 0 (take k is)) then second_fault is k else Some (C2, k)

-- the first rule that the calls of Requires break, and the instruction
abbrev pub call_fault : List Instr → Option (Rule × ℕ)
call_fault is = fault_at is (first_call is)

-- ---- what is written

-- the number of clauses that are spliced
abbrev pub clause_count : Option ℕ → ℕ
clause_count None = 0
clause_count (Some k) = 1

abbrev pub rewritten_at : ℕ → List Instr → Option ℕ → List Instr
rewritten_at a is None = is
rewritten_at a is (Some k) = spliced a is k

-- the instructions with the check in place of the call, if there is one
abbrev pub rewritten : ℕ → List Instr → List Instr
rewritten a is = rewritten_at a is (first_call is)

-- The header says what it said, and there are no regions.
pub record KeepsHeader (before now : Body) : Type 0 where
  pub stack : now.max_stack ≡ before.max_stack
  pub init : now.init ≡ before.init
  pub locals : now.locals ≡ before.locals
  pub regions : now.regions ≡ []
