-- One more code of an instruction.
use Rattle.std.proofs.Common.{◌≡◌, ℕ, zero, suc, ◌+◌, ◌-◌, ◌<◌, ◌≤◌, List, [], length, drop, Option, Some, None, Result, Ok, Err, refl, sym, ap, ◌∙◌, arith}
use Rattle.std.proofs.lemmas.Grind.{common_steps}
use Rattle.std.proofs.lemmas.List.{length-drop}
use Rattle.std.specs.Int.RustNames.{bit_or}
use Rattle.cil_base.proofs.Small.{nil_from_length}
use Rattle.cil_base.specs.declared.token.Token.{Token}
use Rattle.cil_base.specs.declared.rule.Rule.{Rule}
use Rattle.cil_base.specs.declared.rule.Rule.TheVariants.{I2}
use Rattle.cil_base.specs.Numbers.{num_at}
use Rattle.cil_base.specs.Tokens.{token_of}
use Rattle.il_opcodes.specs.declared.opcode.Opcode.{Opcode}
use Rattle.il_opcodes.specs.declared.opcode.OperandKind.{OperandKind}
use Rattle.il_opcodes.specs.declared.opcode.OperandKind.TheVariants as op
use Rattle.cil_model.specs.declared.body.Instr.{Instr}
use Rattle.cil_model.specs.BodyCode.{Reading}
use Rattle.cil_model.specs.BodyCode.{opcode_at, prefixed, instr_at, behind, behind_code, with_operand, operand_at, with_type}

-- There are codes enough.
pub step : (a at : ℕ) (bytes : List ℕ) (k : ℕ) (c : Option Token) (f taken : ℕ) → length bytes ≤ k + taken → prefixed a at bytes k c f taken ≡ behind_code (prefixed a at bytes (k - 1)) a at bytes c f taken (opcode_at (drop taken bytes))
unfolding prefixed
step a at bytes zero c f taken h =
    let e = nil_from_length (drop taken bytes) (omega (arith, length-drop taken bytes)) in
    rw e refl
step a at bytes (suc k) c f taken h =
    let e : suc k - 1 ≡ k = omega arith in rw e refl

pub some_left : (bytes : List ℕ) (taken n : ℕ) (o : Opcode) → opcode_at (drop taken bytes) ≡ Ok (o, n) → taken < length bytes
some_left bytes taken n o h = go (length bytes - taken) refl
  where
    go : (m : ℕ) → length bytes - taken ≡ m → taken < length bytes
    go zero e =
        let z = nil_from_length (drop taken bytes) (omega (arith, length-drop taken bytes, e)) in
        let bad : opcode_at [] ≡ Ok (o, n) = ap opcode_at (sym z) ∙ h in absurd cc
    go (suc m) e = omega arith

-- What the code at the front makes of an instruction that is read so far.
opened : (a at : ℕ) (bytes : List ℕ) (k : ℕ) (c : Option Token) (f taken : ℕ) (r : Result (Opcode × ℕ) Rule) → length bytes ≤ k + taken → prefixed a at bytes k c f taken ≡ instr_at a at bytes → opcode_at (drop taken bytes) ≡ r → instr_at a at bytes ≡ behind_code (prefixed a at bytes (k - 1)) a at bytes c f taken r
opened a at bytes k c f taken r enough e h =
    sym e ∙ step a at bytes k c f taken enough ∙ ap (behind_code (prefixed a at bytes (k - 1)) a at bytes c f taken) h

pub broken : (a at : ℕ) (bytes : List ℕ) (k : ℕ) (c : Option Token) (f taken : ℕ) (rule : Rule) → length bytes ≤ k + taken → prefixed a at bytes k c f taken ≡ instr_at a at bytes → opcode_at (drop taken bytes) ≡ Err rule → instr_at a at bytes ≡ Err rule
broken a at bytes k c f taken rule enough e h = opened a at bytes k c f taken (Err rule) enough e h

-- the instruction after its next code
behind_it : (a at : ℕ) (bytes : List ℕ) (k : ℕ) (c : Option Token) (f taken : ℕ) (o : Opcode) (n : ℕ) (kind : OperandKind) → length bytes ≤ k + taken → prefixed a at bytes k c f taken ≡ instr_at a at bytes → opcode_at (drop taken bytes) ≡ Ok (o, n) → o.operand ≡ kind → instr_at a at bytes ≡ behind (prefixed a at bytes (k - 1)) a at c f (taken + n) o.long (drop (taken + n) bytes) kind
behind_it a at bytes k c f taken o n kind enough e h is =
    opened a at bytes k c f taken (Ok (o, n)) enough e h ∙ ap (behind (prefixed a at bytes (k - 1)) a at c f (taken + n) o.long (drop (taken + n) bytes)) is

pub flagged : (a at : ℕ) (bytes : List ℕ) (k : ℕ) (c : Option Token) (f taken : ℕ) (o : Opcode) (n bit : ℕ) → length bytes ≤ k + taken → prefixed a at bytes k c f taken ≡ instr_at a at bytes → opcode_at (drop taken bytes) ≡ Ok (o, n) → o.operand ≡ op.Flag bit → prefixed a at bytes (k - 1) c (bit_or f bit) (taken + n) ≡ instr_at a at bytes
flagged a at bytes k c f taken o n bit enough e h is = sym (behind_it a at bytes k c f taken o n (op.Flag bit) enough e h is)

pub cut : (a at : ℕ) (bytes : List ℕ) (k : ℕ) (c : Option Token) (f taken : ℕ) (o : Opcode) (n : ℕ) → length bytes ≤ k + taken → prefixed a at bytes k c f taken ≡ instr_at a at bytes → opcode_at (drop taken bytes) ≡ Ok (o, n) → o.operand ≡ op.Constrained → num_at (drop (taken + n) bytes) 0 4 ≡ None → instr_at a at bytes ≡ Err I2
cut a at bytes k c f taken o n enough e h is none =
    behind_it a at bytes k c f taken o n op.Constrained enough e h is ∙ ap (with_type (prefixed a at bytes (k - 1)) f (taken + n)) none

pub typed : (a at : ℕ) (bytes : List ℕ) (k : ℕ) (c : Option Token) (f taken : ℕ) (o : Opcode) (n v : ℕ) → length bytes ≤ k + taken → prefixed a at bytes k c f taken ≡ instr_at a at bytes → opcode_at (drop taken bytes) ≡ Ok (o, n) → o.operand ≡ op.Constrained → num_at (drop (taken + n) bytes) 0 4 ≡ Some v → prefixed a at bytes (k - 1) (Some (token_of v)) f (taken + n + 4) ≡ instr_at a at bytes
typed a at bytes k c f taken o n v enough e h is some =
    sym (behind_it a at bytes k c f taken o n op.Constrained enough e h is ∙ ap (with_type (prefixed a at bytes (k - 1)) f (taken + n)) some)

plain : (more : Option Token → ℕ → ℕ → Reading) (a at : ℕ) (c : Option Token) (f taken code : ℕ) (rest : List ℕ) (kind : OperandKind) → ((bit : ℕ) → kind ≡ op.Flag bit → ⊥) → (kind ≡ op.Constrained → ⊥) → behind more a at c f taken code rest kind ≡ with_operand c f taken code (operand_at a (at + taken) kind rest)
plain more a at c f taken code rest (op.Flag bit) n m = absurd (n bit refl)
plain more a at c f taken code rest op.Constrained n m = absurd (m refl)
plain more a at c f taken code rest kind n m = refl

pub other : (a at : ℕ) (bytes : List ℕ) (k : ℕ) (c : Option Token) (f taken : ℕ) (o : Opcode) (n : ℕ) → length bytes ≤ k + taken → prefixed a at bytes k c f taken ≡ instr_at a at bytes → opcode_at (drop taken bytes) ≡ Ok (o, n) → ((bit : ℕ) → o.operand ≡ op.Flag bit → ⊥) → (o.operand ≡ op.Constrained → ⊥) → instr_at a at bytes ≡ with_operand c f (taken + n) o.long (operand_at a (at + (taken + n)) o.operand (drop (taken + n) bytes))
other a at bytes k c f taken o n enough e h no_flag no_type =
    behind_it a at bytes k c f taken o n o.operand enough e h refl ∙ plain (prefixed a at bytes (k - 1)) a at c f (taken + n) o.long (drop (taken + n) bytes) o.operand no_flag no_type

pub number_room : (bytes : List ℕ) (v : ℕ) → num_at bytes 0 4 ≡ Some v → 4 ≤ length bytes
number_room bytes v h = grind (arith, common_steps)

-- nothing is read of no bytes
pub none_read : (a at : ℕ) (i : Instr) (n : ℕ) → instr_at a at [] ≡ Ok (i, n) → ⊥
unfolding prefixed
none_read a at i n h = absurd cc
