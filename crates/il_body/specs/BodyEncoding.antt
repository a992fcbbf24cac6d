-- The bytes that are written for a method body (ECMA-335, II.25.4 and III.1.9): each instruction in its shortest spelling, but branches and leave in the long one.
use Rattle.std.specs.Prelude.{◌≡◌, ◌≤◌, ℕ, zero, suc, ◌+◌, ◌-◌, ◌*◌, ◌%◌, ◌^◌, Bool, true, false, ◌==◌, ◌&&◌, not, nat_lt, nat_le, if◌then◌else◌, List, [], ◌∷◌, ◌++◌, length, get_or, slice_get, take, drop, map, flat_map, replicate, ℤ, Option, Some, None, is_none}
use Rattle.std.specs.Int.{w8, w16, w32, w64, cast_unsigned, to_le_bytes}
use Rattle.cil_base.specs.declared.token.Token.{Token}
use Rattle.cil_base.specs.Tokens.{token_number}
use Rattle.cil_base.specs.declared.rule.Rule.TheVariants.{L4}
use Rattle.cil_base.specs.declared.refusal.Refusal.{Refusal}
use Rattle.cil_model.specs.declared.body.Operand.{Operand}
use Rattle.cil_model.specs.declared.body.Operand.TheVariants.{Nothing, Int, Index, Target, Targets, Tok}
use Rattle.cil_model.specs.declared.body.Instr.{Instr}
use Rattle.cil_model.specs.declared.body.Region.{Region}
use Rattle.cil_model.specs.declared.body.RegionKind.{RegionKind}
use Rattle.cil_model.specs.declared.body.RegionKind.TheVariants.{Catch, Filter, Finally, Fault}
use Rattle.cil_model.specs.declared.body.Body.{Body}
use Rattle.cil_model.specs.declared.layout.RawClause.{RawClause}
use Rattle.il_opcodes.specs.declared.opcode.Opcode.{Opcode}
use Rattle.il_opcodes.specs.declared.opcode.OperandKind.{OperandKind}
use Rattle.il_opcodes.specs.declared.opcode.OperandKind.TheVariants as op
use Rattle.il_opcodes.specs.Opcodes.{the_opcodes}
use Rattle.cil_model.specs.BodyLayout.{aligned, bit, locals_number}
use Rattle.cil_model.specs.ValidBody.{spelling_of, takes}

-- ---- the bytes of an instruction

abbrev pub code_bytes : ℕ → List ℕ
code_bytes code = if nat_lt code 0x100 then code ∷ [] else 0xFE ∷ (code % 0x100) ∷ []

abbrev pub flag_bytes : ℕ → ℕ → ℕ → List ℕ
flag_bytes value second flags = if bit value flags then 0xFE ∷ second ∷ [] else []

abbrev pub constrained_bytes : Option Token → List ℕ
constrained_bytes None = []
constrained_bytes (Some token) = 0xFE ∷ 0x16 ∷ to_le_bytes w32 (token_number token)

abbrev pub prefix_bytes : Option Token → ℕ → List ℕ
prefix_bytes constrained flags = constrained_bytes constrained ++ (flag_bytes 1 0x13 flags ++ (flag_bytes 2 0x14 flags ++ flag_bytes 4 0x1E flags))

abbrev pub int_bytes : OperandKind → ℤ → List ℕ
int_bytes op.Int8 z = cast_unsigned w8 z ∷ []
int_bytes op.Int32 z = to_le_bytes w32 (cast_unsigned w32 z)
int_bytes op.Int64 z = to_le_bytes w64 (cast_unsigned w64 z)
int_bytes kind z = []

abbrev pub index_bytes : OperandKind → ℕ → List ℕ
index_bytes op.Index8 k = k ∷ []
index_bytes op.Index16 k = to_le_bytes w16 k
index_bytes kind k = []

-- how far it is to a target from the offset where an instruction ends
abbrev pub displacement : ℕ → ℕ → ℕ
displacement target end = (target + (2 ^ 32 - end)) % 2 ^ 32

-- the displacements of a switch that ends at an offset
abbrev pub case_bytes : List ℕ → ℕ → List ℕ → List ℕ
case_bytes offsets end [] = []
case_bytes offsets end (k ∷ ks) = to_le_bytes w32 (displacement (get_or offsets k 0) end) ++ case_bytes offsets end ks

-- The operand stands at an offset in the code, and the instructions begin at these offsets.
abbrev pub operand_bytes : List ℕ → ℕ → OperandKind → Operand → List ℕ
operand_bytes offsets at kind Nothing = []
operand_bytes offsets at kind (Int z) = int_bytes kind z
operand_bytes offsets at kind (Index k) = index_bytes kind k
operand_bytes offsets at kind (Target k) = to_le_bytes w32 (displacement (get_or offsets k 0) (at + 4))
operand_bytes offsets at kind (Targets ks) = to_le_bytes w32 (length ks) ++ case_bytes offsets (at + 4 + 4 * length ks) ks
operand_bytes offsets at kind (Tok a token) = to_le_bytes w32 (token_number token)

abbrev pub front_bytes : Instr → Opcode → List ℕ
front_bytes i o = prefix_bytes i.constrained i.prefixes ++ code_bytes o.code

abbrev pub spelled : List ℕ → ℕ → Instr → Option Opcode → List ℕ
spelled offsets at i None = []
spelled offsets at i (Some o) = front_bytes i o ++ operand_bytes offsets (at + length (front_bytes i o)) o.operand i.operand

-- the bytes of an instruction at an offset
unfoldable pub instr_bytes : List ℕ → ℕ → Instr → List ℕ
instr_bytes offsets at i = spelled offsets at i (spelling_of i.op i.operand)

-- how many they are, wherever the instructions begin
abbrev pub instr_size : Instr → ℕ
instr_size i = length (instr_bytes [] 0 i)

-- how many bytes an operand takes; a switch has some for each case besides, in its one spelling
abbrev pub operand_room : OperandKind → ℕ
operand_room op.Int8 = 1
operand_room op.Index8 = 1
operand_room op.Target8 = 1
operand_room op.Index16 = 2
operand_room op.Int32 = 4
operand_room op.Target32 = 4
operand_room op.Targets = 4
operand_room op.TypeToken = 4
operand_room op.FieldToken = 4
operand_room op.MethodToken = 4
operand_room op.StringToken = 4
operand_room op.AnyToken = 4
operand_room op.Int64 = 8
operand_room kind = 0

abbrev pub spelling_room : Opcode → ℕ
spelling_room o = length (code_bytes o.code) + operand_room o.operand

-- no spelling of the table says the instruction in fewer bytes, but a short branch
abbrev pub AreShortest : Type 0
AreShortest =
    (code : ℕ) (operand : Operand) (o q : Opcode) (k : ℕ) → spelling_of code operand ≡ Some o → slice_get the_opcodes k ≡ Some q → q.long ≡ code → takes q.operand operand ≡ true → spelling_room o ≤ spelling_room q

-- ---- the code

abbrev pub code_from : List ℕ → ℕ → List Instr → List ℕ
code_from offsets at [] = []
code_from offsets at (i ∷ is) = instr_bytes offsets at i ++ code_from offsets (at + length (instr_bytes offsets at i)) is

-- where the instructions begin
abbrev pub begins : ℕ → List Instr → List ℕ
begins at [] = []
begins at (i ∷ is) = at ∷ begins (at + instr_size i) is

-- and where the last one ends
abbrev pub starts : ℕ → List Instr → List ℕ
starts at [] = at ∷ []
starts at (i ∷ is) = at ∷ starts (at + instr_size i) is

abbrev pub code_bytes_of : List Instr → List ℕ
code_bytes_of is = code_from (starts 0 is) 0 is

-- how many instructions there are, each case of a switch counted as one more
abbrev pub cases_in : Operand → ℕ
cases_in (Targets ks) = length ks
cases_in operand = 0

abbrev pub weight : List Instr → ℕ
weight [] = 0
weight (i ∷ is) = 1 + cases_in i.operand + weight is

abbrev pub instr_limit : ℕ
instr_limit = 2 ^ 22

-- the refusal of a body that has more; it names no method
abbrev pub too_many : Refusal
too_many = record { rule = L4; assembly = 0; table = 0; row = 0; at = instr_limit + 1 }

-- ---- the header

abbrev pub is_empty : {X : Type 0} → List X → Bool
is_empty [] = true
is_empty (x ∷ xs) = false

-- whether a tiny header says all of a body whose code has so many bytes
abbrev pub fits_tiny : Body → ℕ → Bool
fits_tiny body size = (body.max_stack == 8) && (nat_lt size 64 && (not body.init && (is_none body.locals && is_empty body.regions)))

-- flags and the header's size in words, the stack, the code's size and the token of the locals
abbrev pub fat_header : Body → ℕ → List ℕ
fat_header body size =
    to_le_bytes w16 (0x3003 + (if body.init then 0x10 else 0) + (if is_empty body.regions then 0 else 8)) ++ (to_le_bytes w16 body.max_stack ++ (to_le_bytes w32 size ++ to_le_bytes w32 (locals_number body.locals)))

abbrev pub header_bytes : Body → ℕ → List ℕ
header_bytes body size = if fits_tiny body size then (4 * size + 2) ∷ [] else fat_header body size

-- ---- the exception sections

abbrev pub flags_of : RegionKind → ℕ
flags_of (Catch token) = 0
flags_of (Filter k) = 1
flags_of Finally = 2
flags_of Fault = 4

abbrev pub last_of : List ℕ → RegionKind → ℕ
last_of offsets (Catch token) = token_number token
last_of offsets (Filter k) = get_or offsets k 0
last_of offsets Finally = 0
last_of offsets Fault = 0

-- the clause of a region, where the instructions begin, and the last one ends, at these offsets
abbrev pub clause_of : List ℕ → Region → RawClause
clause_of offsets r = record { flags = flags_of r.kind; try_from = get_or offsets r.try_from 0; try_size = get_or offsets r.try_to 0 - get_or offsets r.try_from 0; handler_from = get_or offsets r.handler_from 0; handler_size = get_or offsets r.handler_to 0 - get_or offsets r.handler_from 0; last = last_of offsets r.kind }

abbrev pub clause_bytes : RawClause → List ℕ
clause_bytes c =
    to_le_bytes w32 c.flags ++ (to_le_bytes w32 c.try_from ++ (to_le_bytes w32 c.try_size ++ (to_le_bytes w32 c.handler_from ++ (to_le_bytes w32 c.handler_size ++ to_le_bytes w32 c.last))))

-- The kind is exception clauses in fat form, and 0x80 says that another section follows; three bytes have the size.
abbrev pub section_bytes : Bool → List RawClause → List ℕ
section_bytes more cs = to_le_bytes w32 ((if more then 0xC1 else 0x41) + 0x100 * (4 + 24 * length cs)) ++ flat_map clause_bytes cs

-- the most clauses whose section has a size of three bytes
unfoldable pub clause_limit : ℕ
clause_limit = 699050

-- at most so many sections and one: each but the last has as many clauses as it can
abbrev pub sections : ℕ → List RawClause → List ℕ
sections zero cs = section_bytes false cs
sections (suc n) cs =
    if nat_le (length cs) clause_limit then section_bytes false cs else section_bytes true (take clause_limit cs) ++ sections n (drop clause_limit cs)

-- the sections begin at the next multiple of four
abbrev pub behind_code : ℕ → List RawClause → List ℕ
behind_code end [] = []
behind_code end (c ∷ cs) = replicate (aligned end - end) 0 ++ sections (length (c ∷ cs)) (c ∷ cs)

-- ---- the whole

abbrev pub body_bytes : Body → List ℕ
body_bytes body =
    header_bytes body (length (code_bytes_of body.instrs)) ++ (code_bytes_of body.instrs ++ behind_code (12 + length (code_bytes_of body.instrs)) (map (clause_of (starts 0 body.instrs)) body.regions))

-- what the bytes say of an instruction: all but what stands for type parameters in its tokens
abbrev pub without_arguments : Instr → Instr
without_arguments i = record i { under = None }

-- the body with its instructions where they are written
abbrev pub as_encoded : Body → Body
as_encoded body = record body { instrs = map without_arguments body.instrs; offsets = begins 0 body.instrs }
