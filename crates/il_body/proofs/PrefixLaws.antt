-- An instruction that is written with its prefixes reads back, with offsets for all_offsets.
use Rattle.std.proofs.Common.{◌≡◌, ℕ, zero, suc, ◌+◌, ◌-◌, ◌*◌, ◌^◌, ◌<◌, ◌≤◌, Bool, true, false, List, [], ◌∷◌, ◌++◌, length, drop, Option, Some, None, Ok, refl, sym, ap, ◌∙◌, subst, arith, append_assoc, length-append}
use Rattle.std.specs.Prelude.{is_some, nat_lt, IfSome, if◌then◌else◌}
use Rattle.std.specs.Int.{w32, to_le_bytes}
use Rattle.std.specs.Int.RustNames.{bit_or}
use Rattle.cil_base.proofs.Small.{decide}
use Rattle.cil_base.proofs.PieceLaws.{left_behind, room_behind}
use Rattle.cil_base.specs.declared.token.Token.{Token}
use Rattle.cil_base.specs.Numbers.{num_at}
use Rattle.cil_base.specs.Tokens.{token_of, token_number}
use Rattle.cil_model.specs.declared.body.Instr.{Instr}
use Rattle.il_opcodes.specs.declared.opcode.Opcode.{Opcode}
use Rattle.il_opcodes.specs.declared.opcode.OperandKind.TheVariants as op
use Rattle.il_opcodes.specs.declared.class.Class.TheVariants as class
use Rattle.il_opcodes.specs.Opcodes.{opcode_of, the_opcodes, row}
use Rattle.cil_model.specs.BodyCode.{instr_at, opcode_at, operand_at, prefixed, with_operand}
use Rattle.cil_model.specs.BodyLayout.{bit}
use Rattle.il_code.proofs.InstrLaws.{flagged, other, typed}
use Rattle.cil_model.specs.ValidBody.{IsSmallToken, IsValidInstr, spelling_of}
use Rattle.il_body.specs.BodyEncoding.{cases_in, code_bytes, constrained_bytes, flag_bytes, front_bytes, instr_bytes, operand_bytes, prefix_bytes, spelled}
use Rattle.il_body.proofs.NumberLaws.{num_at_back, token_back}
use Rattle.il_body.proofs.OperandLaws.{AreSmall, operand_back, read_operand}
use Rattle.il_body.proofs.SpellingLaws.{code_back, is_spelling, no_flag, no_type}

-- Prefixes are read so far, and these bytes are left.
record IsReached (a at : ℕ) (bytes : List ℕ) (c : Option Token) (f taken : ℕ) (rest : List ℕ) : Type 0 where
  pub left : ℕ
  pub enough : length bytes ≤ left + taken
  pub reads : prefixed a at bytes left c f taken ≡ instr_at a at bytes
  pub remains : drop taken bytes ≡ rest

started : (a at : ℕ) (bytes : List ℕ) → IsReached a at bytes None 0 0 bytes
started a at bytes = record { left = length bytes; enough = omega arith; reads = refl; remains = refl }

volatile : opcode_of 0xFE13 ≡ Some (row 0xFE13 0xFE13 (op.Flag 1) (Some 0) (Some 0) class.Prefix)
unfolding opcode_of the_opcodes
volatile = refl

tail : opcode_of 0xFE14 ≡ Some (row 0xFE14 0xFE14 (op.Flag 2) (Some 0) (Some 0) class.Prefix)
unfolding opcode_of the_opcodes
tail = refl

readonly : opcode_of 0xFE1E ≡ Some (row 0xFE1E 0xFE1E (op.Flag 4) (Some 0) (Some 0) class.Prefix)
unfolding opcode_of the_opcodes
readonly = refl

constrained : opcode_of 0xFE16 ≡ Some (row 0xFE16 0xFE16 op.Constrained (Some 0) (Some 0) class.Prefix)
unfolding opcode_of the_opcodes
constrained = refl

known : (second : ℕ) (rest : List ℕ) (o : Opcode) → opcode_of (0xFE00 + second) ≡ Some o → opcode_at (0xFE ∷ second ∷ rest) ≡ Ok (o, 2)
known second rest o e = rw e refl

flag_step : (a at : ℕ) (bytes : List ℕ) (c : Option Token) (f taken second value : ℕ) (rest : List ℕ) (o : Opcode) → opcode_of (0xFE00 + second) ≡ Some o → o.operand ≡ op.Flag value → IsReached a at bytes c f taken (0xFE ∷ second ∷ rest) → IsReached a at bytes c (bit_or f value) (taken + 2) rest
flag_step a at bytes c f taken second value rest o found is r =
    let h : opcode_at (drop taken bytes) ≡ Ok (o, 2) = ap opcode_at r.remains ∙ known second rest o found in
    let n = room_behind bytes taken (0xFE ∷ second ∷ []) rest r.remains (omega arith) in
    let e = r.enough in
    record {
      left = r.left - 1;
      enough = omega arith;
      reads = flagged a at bytes r.left c f taken o 2 value r.enough r.reads h is;
      remains = left_behind bytes taken (0xFE ∷ second ∷ []) rest r.remains;
    }

maybe_flag : (a at : ℕ) (bytes : List ℕ) (c : Option Token) (f taken second value : ℕ) (rest : List ℕ) (o : Opcode) (b : Bool) → opcode_of (0xFE00 + second) ≡ Some o → o.operand ≡ op.Flag value → IsReached a at bytes c f taken ((if b then 0xFE ∷ second ∷ [] else []) ++ rest) → IsReached a at bytes c (if b then bit_or f value else f) (taken + length (if b then 0xFE ∷ second ∷ [] else [])) rest
maybe_flag a at bytes c f taken second value rest o true found is r = flag_step a at bytes c f taken second value rest o found is r
maybe_flag a at bytes c f taken second value rest o false found is r =
    let z : taken ≡ taken + 0 = omega arith in subst (λ (t : ℕ). IsReached a at bytes c f t rest) z r

maybe_type : (a at : ℕ) (bytes : List ℕ) (c : Option Token) (rest : List ℕ) → IfSome c IsSmallToken → IsReached a at bytes None 0 0 (constrained_bytes c ++ rest) → IsReached a at bytes c 0 (0 + length (constrained_bytes c)) rest
maybe_type a at bytes None rest s r = r
maybe_type a at bytes (Some token) rest s r =
    let v = token_number token in
    let number = to_le_bytes w32 v in
    let below = s.0 in
    let within = s.1 in
    let h : opcode_at (drop 0 bytes) ≡ Ok (row 0xFE16 0xFE16 op.Constrained (Some 0) (Some 0) class.Prefix, 2) = ap opcode_at r.remains ∙ known 0x16 (number ++ rest) (row 0xFE16 0xFE16 op.Constrained (Some 0) (Some 0) class.Prefix) constrained in
    let behind : drop 2 bytes ≡ number ++ rest = left_behind bytes 0 (0xFE ∷ 0x16 ∷ []) (number ++ rest) r.remains in
    let some : num_at (drop 2 bytes) 0 4 ≡ Some v = num_at_back (drop 2 bytes) 0 v rest behind (omega arith) in
    let all : prefixed a at bytes (r.left - 1) (Some (token_of v)) 0 6 ≡ instr_at a at bytes = typed a at bytes r.left None 0 0 (row 0xFE16 0xFE16 op.Constrained (Some 0) (Some 0) class.Prefix) 2 v r.enough r.reads h refl some in
    let e = r.enough in
    record {
      left = r.left - 1;
      enough = omega arith;
      reads = subst (λ (t : Token). prefixed a at bytes (r.left - 1) (Some t) 0 6 ≡ instr_at a at bytes) (token_back token within) all;
      remains = left_behind bytes 2 number rest behind;
    }

-- the flags, one bit after another
abbrev one : ℕ → ℕ
one f = if bit 1 f then bit_or 0 1 else 0

abbrev two : ℕ → ℕ
two f = if bit 2 f then bit_or (one f) 2 else one f

abbrev four : ℕ → ℕ
four f = if bit 4 f then bit_or (two f) 4 else two f

all_flags : (f : ℕ) → f < 8 → four f ≡ f
all_flags zero h = refl
all_flags (suc zero) h = refl
all_flags (suc (suc zero)) h = refl
all_flags (suc (suc (suc zero))) h = refl
all_flags (suc (suc (suc (suc zero)))) h = refl
all_flags (suc (suc (suc (suc (suc zero))))) h = refl
all_flags (suc (suc (suc (suc (suc (suc zero)))))) h = refl
all_flags (suc (suc (suc (suc (suc (suc (suc zero))))))) h = refl
all_flags (suc (suc (suc (suc (suc (suc (suc (suc f)))))))) h = absurd (omega arith)

prefixes : (a at : ℕ) (c : Option Token) (f : ℕ) (rest : List ℕ) → IfSome c IsSmallToken → f < 8 → IsReached a at (prefix_bytes c f ++ rest) c f (length (prefix_bytes c f)) rest
prefixes a at c f rest s small =
    let w = constrained_bytes c in
    let x = flag_bytes 1 0x13 f in
    let y = flag_bytes 2 0x14 f in
    let z = flag_bytes 4 0x1E f in
    let bytes = prefix_bytes c f ++ rest in
    let shape : bytes ≡ w ++ (x ++ (y ++ (z ++ rest))) =
    append_assoc w (x ++ (y ++ z)) rest ∙ ap (λ (l : List ℕ). w ++ l) (append_assoc x (y ++ z) rest ∙ ap (λ (l : List ℕ). x ++ l) (append_assoc y z rest)) in
    let r = maybe_type a at bytes c (x ++ (y ++ (z ++ rest))) s (subst (λ (l : List ℕ). IsReached a at bytes None 0 0 l) shape (started a at bytes)) in
    let r1 = maybe_flag a at bytes c 0 (0 + length w) 0x13 1 (y ++ (z ++ rest)) (row 0xFE13 0xFE13 (op.Flag 1) (Some 0) (Some 0) class.Prefix) (bit 1 f) volatile refl r in
    let r2 = maybe_flag a at bytes c (one f) (0 + length w + length x) 0x14 2 (z ++ rest) (row 0xFE14 0xFE14 (op.Flag 2) (Some 0) (Some 0) class.Prefix) (bit 2 f) tail refl r1 in
    let r3 = maybe_flag a at bytes c (two f) (0 + length w + length x + length y) 0x1E 4 rest (row 0xFE1E 0xFE1E (op.Flag 4) (Some 0) (Some 0) class.Prefix) (bit 4 f) readonly refl r2 in
    let size : 0 + length w + length x + length y + length z ≡ length (prefix_bytes c f) = omega (arith, length-append w (x ++ (y ++ z)), length-append x (y ++ z), length-append y z) in
    let r4 = subst (λ (g : ℕ). IsReached a at bytes c g (0 + length w + length x + length y + length z) rest) (all_flags f small) r3 in
    subst (λ (t : ℕ). IsReached a at bytes c f t rest) size r4

-- ---- sizes

small_code : (code : ℕ) → length (code_bytes code) ≤ 2
small_code code = decide (nat_lt code 0x100) (λ t. rw t (omega arith)) (λ f. rw f (omega arith))

small_flag : (value second : ℕ) (f : ℕ) → length (flag_bytes value second f) ≤ 2
small_flag value second f = decide (bit value f) (λ t. rw t (omega arith)) (λ e. rw e (omega arith))

small_type : (c : Option Token) → length (constrained_bytes c) ≤ 6
small_type None = omega arith
small_type (Some token) = omega arith

pub small_front : (i : Instr) (o : Opcode) → length (front_bytes i o) ≤ 14
small_front i o =
    let w = constrained_bytes i.constrained in
    let x = flag_bytes 1 0x13 i.prefixes in
    let y = flag_bytes 2 0x14 i.prefixes in
    let z = flag_bytes 4 0x1E i.prefixes in
    omega (arith, length-append (prefix_bytes i.constrained i.prefixes) (code_bytes o.code), length-append w (x ++ (y ++ z)), length-append x (y ++ z), length-append y z, small_code o.code, small_type i.constrained, small_flag 1 0x13 i.prefixes, small_flag 2 0x14 i.prefixes, small_flag 4 0x1E i.prefixes)

-- the instruction as it is read: targets are offsets
abbrev pub read_instr : List ℕ → Instr → Instr
read_instr all_offsets i = record { op = i.op; operand = read_operand all_offsets i.operand; constrained = i.constrained; prefixes = i.prefixes; under = None }

spelled_back : (a at count : ℕ) (all_offsets : List ℕ) (i : Instr) (rest : List ℕ) (o : Option Opcode) → spelling_of i.op i.operand ≡ o → is_some o ≡ true → IsValidInstr a count i → AreSmall all_offsets → at + 24 * (1 + cases_in i.operand) ≤ 2 ^ 32 → instr_at a at (spelled all_offsets at i o ++ rest) ≡ Ok (read_instr all_offsets i, length (spelled all_offsets at i o))
spelled_back a at count all_offsets i rest None e some valid small inside = cc
spelled_back a at count all_offsets i rest (Some o) e some valid small inside =
    let s = is_spelling i.op i.operand o e in
    let p = prefix_bytes i.constrained i.prefixes in
    let c = code_bytes o.code in
    let b = operand_bytes all_offsets (at + length (p ++ c)) o.operand i.operand in
    let bytes = ((p ++ c) ++ b) ++ rest in
    let shape : bytes ≡ p ++ (c ++ (b ++ rest)) = append_assoc (p ++ c) b rest ∙ append_assoc p c (b ++ rest) in
    let front = length-append p c in
    let all = length-append (p ++ c) b in
    let r = subst (λ (l : List ℕ). IsReached a at l i.constrained i.prefixes (length p) (c ++ (b ++ rest))) (sym shape) (prefixes a at i.constrained i.prefixes (c ++ (b ++ rest)) valid.constrained valid.prefixes) in
    let h : opcode_at (drop (length p) bytes) ≡ Ok (o, length c) = ap opcode_at r.remains ∙ code_back i.op i.operand o (b ++ rest) s in
    let behind : drop (length p + length c) bytes ≡ b ++ rest = left_behind bytes (length p) c (b ++ rest) r.remains in
    let whole = other a at bytes r.left i.constrained i.prefixes (length p) o (length c) r.enough r.reads h (λ value. no_flag o.operand i.operand value s.takes) (no_type o.operand i.operand s.takes) in
    let place : at + length (p ++ c) ≡ at + (length p + length c) = omega arith in
    let read = operand_back a (at + length (p ++ c)) count all_offsets o.operand i.operand rest s.takes valid.operand small (omega (arith, small_front i o)) in
    let read_1 : operand_at a (at + (length p + length c)) o.operand (drop (length p + length c) bytes) ≡ Some (read_operand all_offsets i.operand, length b) = ap (λ (n : ℕ). operand_at a n o.operand (drop (length p + length c) bytes)) (sym place) ∙ ap (operand_at a (at + length (p ++ c)) o.operand) behind ∙ read in
    let size : length p + length c + length b ≡ length ((p ++ c) ++ b) = omega arith in
    whole ∙ ap (with_operand i.constrained i.prefixes (length p + length c) o.long) read_1 ∙ (λ k. Ok (record { op = s.long k; operand = read_operand all_offsets i.operand; constrained = i.constrained; prefixes = i.prefixes; under = None }, size k))

pub instr_back : (a at count : ℕ) (all_offsets : List ℕ) (i : Instr) (rest : List ℕ) → IsValidInstr a count i → AreSmall all_offsets → at + 24 * (1 + cases_in i.operand) ≤ 2 ^ 32 → instr_at a at (instr_bytes all_offsets at i ++ rest) ≡ Ok (read_instr all_offsets i, length (instr_bytes all_offsets at i))
unfolding instr_bytes
instr_back a at count all_offsets i rest valid small inside =
    spelled_back a at count all_offsets i rest (spelling_of i.op i.operand) refl valid.spelled valid small inside
