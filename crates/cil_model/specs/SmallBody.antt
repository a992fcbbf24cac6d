-- The form of the command `body`: a tiny header (ECMA-335, II.25.4.2), its code and no more, over a few int32 instructions and the call of Requires.
use Rattle.std.specs.Prelude.{◌≡◌, ℕ, ◌<◌, ◌/◌, ◌%◌, Bool, false, true, ◌==◌, ◌&&◌, not, if◌then◌else◌, List, [], ◌∷◌, length, Option, Some, None, Ok, Err, is_none}
use Rattle.std.specs.List.{list_any}
use Rattle.cil_base.specs.declared.rule.Rule.TheVariants.{I1, I2, I5}
use Rattle.cil_base.specs.declared.refusal.Place.{Place}
use Rattle.cil_base.specs.declared.refusal.Refusal.{Refusal}
use Rattle.cil_base.specs.Refusals.{refusal}
use Rattle.cil_model.specs.declared.body.Operand.{Operand}
use Rattle.cil_model.specs.declared.body.Operand.TheVariants.{Target, Targets}
use Rattle.cil_model.specs.declared.body.Instr.{Instr}
use Rattle.cil_model.specs.declared.body.Body.{Body}
use Rattle.cil_model.specs.SmallMeaning.{is_branch, is_requires}
use Rattle.cil_model.specs.BodyCode.{Reading, Reads, code_at, instr_at}
use Rattle.cil_model.specs.BodyOf.{FaultIn, StandsFor}

-- nop, ldarg.0 to ldarg.3, all spellings of ldc.i4, dup, pop, call, ret, add, sub, mul, ceq, cgt and clt
abbrev pub small_codes : List ℕ
small_codes =
    0x00 ∷ 0x02 ∷ 0x03 ∷ 0x04 ∷ 0x05 ∷ 0x15 ∷ 0x16 ∷ 0x17 ∷ 0x18 ∷ 0x19 ∷ 0x1A ∷ 0x1B ∷ 0x1C ∷ 0x1D ∷ 0x1E ∷ 0x1F ∷ 0x20 ∷
    0x25 ∷ 0x26 ∷ 0x28 ∷ 0x2A ∷ 0x58 ∷ 0x59 ∷ 0x5A ∷ 0xFE01 ∷ 0xFE02 ∷ 0xFE04 ∷ []

unfoldable pub is_small_code : ℕ → Bool
is_small_code code = list_any (λ c. c == code) small_codes

-- The one call is that of Requires.
abbrev pub if_no_other_call : Reading → Reading
if_no_other_call (Ok (i, n)) = if (i.op == 0x28) && not (is_requires i) then Err I1 else Ok (i, n)
if_no_other_call (Err rule) = Err rule

abbrev pub small_with : ℕ → ℕ → List ℕ → Option (ℕ × ℕ) → Reading
small_with a at bytes None = Err I2
small_with a at bytes (Some (code, n)) = if is_small_code code then if_no_other_call (instr_at a at bytes) else Err I1

-- the instruction at the front of the bytes, if its code is one of these and it is no other call
abbrev pub small_at : ℕ → ℕ → List ℕ → Reading
small_at a at bytes = small_with a at bytes (code_at bytes)

-- what comes behind a tiny header, if the bytes are that and no more
abbrev pub tiny_code : List ℕ → Option (List ℕ)
tiny_code [] = None
tiny_code (h ∷ code) = if (h % 4 == 2) && (h / 4 == length code) then Some code else None

-- The bytes stand for the body, in the form of the command.
pub record IsSmallBody (a : ℕ) (bytes : List ℕ) (body : Body) : Type 0 where
  pub code : List ℕ
  pub header : tiny_code bytes ≡ Some code
  pub small : length code < 64
  pub instrs : Reads (small_at a) 0 code body.instrs body.offsets (length code) []
  pub stands : StandsFor a bytes body (length bytes)
  pub locals : body.locals ≡ None

-- An instruction that goes on to the next one, or calls: it has no target, and nothing stands for type parameters in it.
abbrev pub has_target : Operand → Bool
has_target (Target k) = true
has_target (Targets ks) = true
has_target operand = false

abbrev pub is_plain : Instr → Bool
is_plain i = not (has_target i.operand) && (not (is_branch i) && is_none i.under)

abbrev pub AllPlain : List Instr → Type 0
AllPlain [] = Unit {0}
AllPlain (i ∷ is) = (is_plain i ≡ true) × AllPlain is

-- ---- refusals

-- The bytes aren't a tiny header and the code that it tells of, and no more.
abbrev pub HeaderBreaks : Place → List ℕ → Refusal → Type 0
HeaderBreaks place bytes r = (tiny_code bytes ≡ None) × (r ≡ refusal I5 place 0)

-- the first instruction that is none of the command's
abbrev pub CodeBreaks : Place → List ℕ → Refusal → Type 0
CodeBreaks place bytes r = (code : List ℕ) × (tiny_code bytes ≡ Some code) × FaultIn (small_at place.assembly) place code r
