-- How an instruction with its prefixes stands in code (ECMA-335, III.1.2 and III.1.9). Here a target is an offset in the code.
use Rattle.std.specs.Prelude.{◌≡◌, ℕ, zero, suc, ◌+◌, ◌-◌, ◌*◌, ◌%◌, ◌^◌, ◌==◌, nat_lt, nat_le, if◌then◌else◌, List, [], ◌∷◌, ◌++◌, length, drop, slice_get, Option, Some, None, Result, Ok, Err}
use Rattle.std.specs.Int.{w8, w32, w64, cast_signed}
use Rattle.std.specs.Int.RustNames.{bit_or}
use Rattle.cil_base.specs.declared.token.Token.{Token}
use Rattle.cil_base.specs.declared.rule.Rule.{Rule}
use Rattle.cil_base.specs.declared.rule.Rule.TheVariants.{I1, I2}
use Rattle.cil_base.specs.Numbers.{num, num_at}
use Rattle.cil_base.specs.Tokens.{token_of}
use Rattle.cil_model.specs.declared.body.Operand.{Operand}
use Rattle.cil_model.specs.declared.body.Operand.TheVariants.{Nothing, Int, Index, Target, Targets, Tok}
use Rattle.cil_model.specs.declared.body.Instr.{Instr}
use Rattle.il_opcodes.specs.declared.opcode.Opcode.{Opcode}
use Rattle.il_opcodes.specs.declared.opcode.OperandKind.{OperandKind}
use Rattle.il_opcodes.specs.declared.opcode.OperandKind.TheVariants as op
use Rattle.il_opcodes.specs.Opcodes.{opcode_of}

-- an instruction without prefixes
abbrev pub instr : ℕ → Operand → Instr
instr op operand = record { op = op; operand = operand; constrained = None; prefixes = 0; under = None }

-- An instruction and how many bytes it takes, or the rule that is broken.
abbrev pub Reading : Type 0
Reading = Result (Instr × ℕ) Rule

-- ---- codes

abbrev pub second_of : Option ℕ → Option (ℕ × ℕ)
second_of None = None
second_of (Some b) = Some (0xFE00 + b, 2)

-- the code at the front and how many bytes it takes; none where it is cut
abbrev pub code_at : List ℕ → Option (ℕ × ℕ)
code_at [] = None
code_at (b ∷ rest) = if b == 0xFE then second_of (slice_get rest 0) else Some (b, 1)

abbrev pub if_defined : Option Opcode → ℕ → Result (Opcode × ℕ) Rule
if_defined None n = Err I1
if_defined (Some o) n = Ok (o, n)

abbrev pub opcode_for : Option (ℕ × ℕ) → Result (Opcode × ℕ) Rule
opcode_for None = Err I2
opcode_for (Some (code, n)) = if_defined (opcode_of code) n

-- the instruction whose code is at the front
abbrev pub opcode_at : List ℕ → Result (Opcode × ℕ) Rule
opcode_at bytes = opcode_for (code_at bytes)

-- ---- operands

-- a displacement of one byte as one of four
abbrev pub sign_extend : ℕ → ℕ
sign_extend b = if nat_lt b 0x80 then b else b + (2 ^ 32 - 2 ^ 8)

-- the offset so far behind the end of an instruction; offsets are numbers of four bytes
abbrev pub landing : ℕ → ℕ → ℕ
landing end v = (end + v) % 2 ^ 32

-- the first n targets of a switch that ends at an offset
abbrev pub cases : ℕ → List ℕ → ℕ → List ℕ
cases end bytes zero = []
cases end bytes (suc n) = cases end bytes n ++ landing end (num bytes (4 * n) 4) ∷ []

abbrev pub with_number : (ℕ → Operand) → ℕ → Option ℕ → Option (Operand × ℕ)
with_number f n None = None
with_number f n (Some v) = Some (f v, n)

abbrev pub switch_of : ℕ → List ℕ → Option ℕ → Option (Operand × ℕ)
switch_of at bytes None = None
switch_of at bytes (Some n) =
    if nat_le (4 + 4 * n) (length bytes) then Some (Targets (cases (at + 4 + 4 * n) (drop 4 bytes) n), 4 + 4 * n) else None

abbrev pub token_at : ℕ → List ℕ → Option (Operand × ℕ)
token_at a bytes = with_number (λ v. Tok a (token_of v)) 4 (num_at bytes 0 4)

-- the operand that begins at an offset, in the assembly a, and how many bytes it takes; none where it is cut
abbrev pub operand_at : ℕ → ℕ → OperandKind → List ℕ → Option (Operand × ℕ)
operand_at a at op.Nothing bytes = Some (Nothing, 0)
operand_at a at op.Int8 bytes = with_number (λ v. Int (cast_signed w8 v)) 1 (slice_get bytes 0)
operand_at a at op.Int32 bytes = with_number (λ v. Int (cast_signed w32 v)) 4 (num_at bytes 0 4)
operand_at a at op.Int64 bytes = with_number (λ v. Int (cast_signed w64 v)) 8 (num_at bytes 0 8)
operand_at a at op.Index8 bytes = with_number Index 1 (slice_get bytes 0)
operand_at a at op.Index16 bytes = with_number Index 2 (num_at bytes 0 2)
operand_at a at op.Target8 bytes = with_number (λ v. Target (landing (at + 1) (sign_extend v))) 1 (slice_get bytes 0)
operand_at a at op.Target32 bytes = with_number (λ v. Target (landing (at + 4) v)) 4 (num_at bytes 0 4)
operand_at a at op.Targets bytes = switch_of at bytes (num_at bytes 0 4)
operand_at a at op.TypeToken bytes = token_at a bytes
operand_at a at op.FieldToken bytes = token_at a bytes
operand_at a at op.MethodToken bytes = token_at a bytes
operand_at a at op.StringToken bytes = token_at a bytes
operand_at a at op.AnyToken bytes = token_at a bytes
operand_at a at (op.ThatIndex k) bytes = Some (Index k, 0)
operand_at a at (op.ThatInt z) bytes = Some (Int z, 0)
operand_at a at (op.Flag bit) bytes = None
operand_at a at op.Constrained bytes = None

-- ---- instructions with their prefixes

abbrev pub with_operand : Option Token → ℕ → ℕ → ℕ → Option (Operand × ℕ) → Reading
with_operand constrained flags taken code None = Err I2
with_operand constrained flags taken code (Some (operand, n)) =
    Ok (record { op = code; operand = operand; constrained = constrained; prefixes = flags; under = None }, taken + n)

abbrev pub with_type : (Option Token → ℕ → ℕ → Reading) → ℕ → ℕ → Option ℕ → Reading
with_type more flags taken None = Err I2
with_type more flags taken (Some v) = more (Some (token_of v)) flags (taken + 4)

-- what follows a code: more codes behind a prefix, and else the operand
abbrev pub behind : (Option Token → ℕ → ℕ → Reading) → ℕ → ℕ → Option Token → ℕ → ℕ → ℕ → List ℕ → OperandKind → Reading
behind more a at constrained flags taken code rest (op.Flag bit) = more constrained (bit_or flags bit) taken
behind more a at constrained flags taken code rest op.Constrained = with_type more flags taken (num_at rest 0 4)
behind more a at constrained flags taken code rest kind = with_operand constrained flags taken code (operand_at a (at + taken) kind rest)

abbrev pub behind_code : (Option Token → ℕ → ℕ → Reading) → ℕ → ℕ → List ℕ → Option Token → ℕ → ℕ → Result (Opcode × ℕ) Rule → Reading
behind_code more a at bytes constrained flags taken (Err rule) = Err rule
behind_code more a at bytes constrained flags taken (Ok (o, n)) =
    behind more a at constrained flags (taken + n) o.long (drop (taken + n) bytes) o.operand

-- the instruction of which some bytes are taken by prefixes; the nearest constrained. counts, and so many more codes may follow
unfoldable pub prefixed : ℕ → ℕ → List ℕ → ℕ → Option Token → ℕ → ℕ → Reading
prefixed a at bytes zero constrained flags taken = Err I2
prefixed a at bytes (suc k) constrained flags taken =
    behind_code (prefixed a at bytes k) a at bytes constrained flags taken (opcode_at (drop taken bytes))

-- the instruction at the front of the bytes, which begin at an offset in the code of the assembly a
abbrev pub instr_at : ℕ → ℕ → List ℕ → Reading
instr_at a at bytes = prefixed a at bytes (length bytes) None 0 0

-- ---- code

-- a reader of the instruction at the front of the bytes, which begin at an offset
abbrev pub Reader : Type 0
Reader = ℕ → List ℕ → Reading

-- The bytes are these instructions in turn, which begin at these offsets, and then rest at the offset end.
abbrev pub Reads : Reader → ℕ → List ℕ → List Instr → List ℕ → ℕ → List ℕ → Type 0
Reads read at bytes [] [] end rest = (end ≡ at) × (rest ≡ bytes)
Reads read at bytes [] (o ∷ os) end rest = ⊥
Reads read at bytes (i ∷ is) [] end rest = ⊥
Reads read at bytes (i ∷ is) (o ∷ os) end rest = (o ≡ at) × ((n : ℕ) × (read at bytes ≡ Ok (i, n)) × Reads read (at + n) (drop n bytes) is os end rest)
