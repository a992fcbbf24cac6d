-- Which bodies can be written: each instruction has a spelling, and each target is an instruction (ECMA-335, III.1.7 and III.1.9).
use Rattle.std.specs.Prelude.{◌≡◌, ◌≤◌, ◌<◌, ℕ, ◌^◌, Bool, true, false, ◌==◌, ◌&&◌, nat_lt, List, [], ◌∷◌, length, get_or, find, ℤ, pos, negsuc, Option, IfSome, is_some, IsTrue}
use Rattle.std.specs.Ordering.{int_eq}
use Rattle.cil_base.specs.declared.token.Token.{Token}
use Rattle.cil_model.specs.declared.body.Operand.{Operand}
use Rattle.cil_model.specs.declared.body.Operand.TheVariants.{Nothing, Int, Index, Target, Targets, Tok}
use Rattle.cil_model.specs.declared.body.Instr.{Instr}
use Rattle.cil_model.specs.declared.body.Region.{Region}
use Rattle.cil_model.specs.declared.body.RegionKind.{RegionKind}
use Rattle.cil_model.specs.declared.body.RegionKind.TheVariants.{Catch, Filter, Finally, Fault}
use Rattle.cil_model.specs.declared.body.Body.{Body}
use Rattle.il_opcodes.specs.declared.opcode.Opcode.{Opcode}
use Rattle.il_opcodes.specs.declared.opcode.OperandKind.{OperandKind}
use Rattle.il_opcodes.specs.declared.opcode.OperandKind.TheVariants as op
use Rattle.il_opcodes.specs.Opcodes.{the_opcodes}

-- ---- which spelling an instruction has

-- whether a number is one of a signed type that has so many of each sign
abbrev pub is_within : ℕ → ℤ → Bool
is_within half (pos n) = nat_lt n half
is_within half (negsuc n) = nat_lt n half

abbrev pub takes_int : OperandKind → ℤ → Bool
takes_int op.Int8 z = is_within 0x80 z
takes_int op.Int32 z = is_within (2 ^ 31) z
takes_int op.Int64 z = is_within (2 ^ 63) z
takes_int (op.ThatInt y) z = int_eq y z
takes_int kind z = false

abbrev pub takes_index : OperandKind → ℕ → Bool
takes_index op.Index8 k = nat_lt k 0x100
takes_index op.Index16 k = nat_lt k 0x10000
takes_index (op.ThatIndex j) k = j == k
takes_index kind k = false

abbrev pub takes_token : OperandKind → Bool
takes_token op.TypeToken = true
takes_token op.FieldToken = true
takes_token op.MethodToken = true
takes_token op.StringToken = true
takes_token op.AnyToken = true
takes_token kind = false

abbrev pub takes_nothing : OperandKind → Bool
takes_nothing op.Nothing = true
takes_nothing kind = false

abbrev pub takes_target : OperandKind → Bool
takes_target op.Target32 = true
takes_target kind = false

abbrev pub takes_targets : OperandKind → Bool
takes_targets op.Targets = true
takes_targets kind = false

-- whether a spelling whose operand is of the kind can say this one; a short branch says none
abbrev pub takes : OperandKind → Operand → Bool
takes kind Nothing = takes_nothing kind
takes kind (Int z) = takes_int kind z
takes kind (Index k) = takes_index kind k
takes kind (Target k) = takes_target kind
takes kind (Targets ks) = takes_targets kind
takes kind (Tok a token) = takes_token kind

-- The spelling is the first one that says it; the table has the short ones first.
abbrev pub spelling_of : ℕ → Operand → Option Opcode
spelling_of code operand = find (λ o. (o.long == code) && takes o.operand operand) the_opcodes

-- ---- valid bodies

abbrev pub IsSmallToken : Token → Type 0
IsSmallToken token = (token.table < 2 ^ 8) × (token.row < 2 ^ 24)

abbrev pub AllBelow : ℕ → List ℕ → Type 0
AllBelow count [] = Unit {0}
AllBelow count (k ∷ ks) = (k < count) × AllBelow count ks

-- targets are offsets of one of so many instructions, and tokens are of the assembly a
abbrev pub IsValidOperand : ℕ → ℕ → Operand → Type 0
IsValidOperand a count Nothing = Unit {0}
IsValidOperand a count (Int z) = Unit {0}
IsValidOperand a count (Index k) = Unit {0}
IsValidOperand a count (Target k) = k < count
IsValidOperand a count (Targets ks) = AllBelow count ks
IsValidOperand a count (Tok assembly token) = (assembly ≡ a) × IsSmallToken token

pub record IsValidInstr (a count : ℕ) (i : Instr) : Type 0 where
  pub spelled : IsTrue (is_some (spelling_of i.op i.operand))
  pub operand : IsValidOperand a count i.operand
  pub constrained : IfSome i.constrained IsSmallToken
  pub prefixes : i.prefixes < 8

abbrev pub AllValid : ℕ → ℕ → List Instr → Type 0
AllValid a count [] = Unit {0}
AllValid a count (i ∷ is) = IsValidInstr a count i × AllValid a count is

abbrev pub IsValidKind : ℕ → RegionKind → Type 0
IsValidKind count (Catch token) = IsSmallToken token
IsValidKind count (Filter k) = k < count
IsValidKind count Finally = Unit {0}
IsValidKind count Fault = Unit {0}

-- Each part begins at an instruction, and ends behind one or with the code, and not before it begins.
pub record IsValidRegion (count : ℕ) (r : Region) : Type 0 where
  pub kind : IsValidKind count r.kind
  pub tried : r.try_from < count
  pub tried_end : r.try_to ≤ count
  pub tried_order : r.try_from ≤ r.try_to
  pub handler : r.handler_from < count
  pub handler_end : r.handler_to ≤ count
  pub handler_order : r.handler_from ≤ r.handler_to

abbrev pub AllValidRegions : ℕ → List Region → Type 0
AllValidRegions count [] = Unit {0}
AllValidRegions count (r ∷ rs) = IsValidRegion count r × AllValidRegions count rs

-- The body can be written, with tokens of the assembly a.
pub record IsValid (a : ℕ) (body : Body) : Type 0 where
  pub instrs : AllValid a (length body.instrs) body.instrs
  pub regions : AllValidRegions (length body.instrs) body.regions
  pub locals : IfSome body.locals IsSmallToken

abbrev pub AreBytes : List ℕ → Type 0
AreBytes bytes = (k : ℕ) → get_or bytes k 0 < 256
