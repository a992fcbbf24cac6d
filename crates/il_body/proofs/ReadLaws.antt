-- What is read as an instruction can be written.
use Rattle.std.proofs.Common.{◌≡◌, ℕ, zero, suc, ◌+◌, ◌*◌, ◌^◌, ◌<◌, ◌≤◌, Bool, true, false, cond, ◌&&◌, ℤ, List, [], ◌∷◌, length, drop, Option, Some, None, Ok, Err, Result, refl, sym, ap, subst, arith, ⊎_elim}
use Rattle.std.specs.Prelude.{IfSome, find, is_some, nat_lt, nat_le, slice_get, ◌==◌}
use Rattle.std.specs.Int.{w8, w32, w64, cast_signed}
use Rattle.std.specs.List.{list_all}
use Rattle.std.specs.Int.RustNames.{bit_or}
use Rattle.std.proofs.lemmas.Grind.{common_steps}
use Rattle.std.proofs.lemmas.Nat.{or_lt}
use Rattle.cil_base.proofs.Small.{and_both, less}
use Rattle.cil_base.specs.declared.token.Token.{Token}
use Rattle.cil_base.specs.declared.rule.Rule.{Rule}
use Rattle.cil_base.specs.Numbers.{num_at}
use Rattle.cil_base.specs.Tokens.{token_of}
use Rattle.cil_model.specs.declared.body.Instr.{Instr}
use Rattle.cil_model.specs.declared.body.Operand.{Operand}
use Rattle.cil_model.specs.declared.body.Operand.TheVariants.{Nothing, Int, Index, Target, Targets, Tok}
use Rattle.il_opcodes.specs.declared.opcode.Opcode.{Opcode}
use Rattle.il_opcodes.specs.declared.opcode.OperandKind.{OperandKind}
use Rattle.il_opcodes.specs.declared.opcode.OperandKind.TheVariants as op
use Rattle.il_opcodes.specs.Opcodes.{the_opcodes}
use Rattle.cil_model.specs.BodyCode.{Reading}
use Rattle.cil_model.specs.BodyCode.{behind, behind_code, cases, instr_at, landing, opcode_at, operand_at, prefixed, switch_of, token_at, sign_extend, with_number, with_operand, with_type}
use Rattle.cil_model.specs.ValidBody.{AreBytes, IsSmallToken, is_within, spelling_of, takes, takes_index, takes_int, takes_targets, takes_token}
use Rattle.il_body.proofs.KindLaws.{IsRow, bytes_drop, is_index16, is_int32, is_int32_number, is_int64, long_row, row_at, says_all, signed_8, signed_32, signed_64, small_at, small_byte, small_token, some_at}
use Rattle.il_body.proofs.SpellingLaws.{passing, split}

-- what is known of an operand that is read
abbrev pub IsReadOperand : ℕ → Operand → Type 0
IsReadOperand a Nothing = Unit {0}
IsReadOperand a (Int z) = Unit {0}
IsReadOperand a (Index k) = Unit {0}
IsReadOperand a (Target k) = Unit {0}
IsReadOperand a (Targets ks) = Unit {0}
IsReadOperand a (Tok assembly token) = (assembly ≡ a) × IsSmallToken token

-- the operand is one that the longest spelling says
record IsSaid (a : ℕ) (kind q : OperandKind) (x : Operand) : Type 0 where
  pub said : takes q x ≡ true
  pub operand : IsReadOperand a x

int32_takes : (q : OperandKind) (z : ℤ) → is_int32 q ≡ true → is_int32_number z ≡ true → takes_int q z ≡ true
int32_takes op.Int32 z h s = s
int32_takes q z h s = absurd cc

int64_takes : (q : OperandKind) (z : ℤ) → is_int64 q ≡ true → is_within (2 ^ 63) z ≡ true → takes_int q z ≡ true
int64_takes op.Int64 z h s = s
int64_takes q z h s = absurd cc

index_takes : (q : OperandKind) (k : ℕ) → is_index16 q ≡ true → nat_lt k 0x10000 ≡ true → takes_index q k ≡ true
index_takes op.Index16 k h s = s
index_takes q k h s = absurd cc

below : (m n : ℕ) → m < n → nat_lt m n ≡ true
below m n h = grind (arith, common_steps)

same_operand : (x y : Operand) (m n : ℕ) → let o : Option (Operand × ℕ) = Some (x, m) in o ≡ Some (y, n) → x ≡ y
same_operand x y m n h = let e : (x, m) ≡ (y, n) = cc in ap (λ (p : Operand × ℕ). p.0) e

-- a number that is read
said_number : (a : ℕ) (kind q : OperandKind) (f : ℕ → Operand) (m : ℕ) (r : Option ℕ) (x : Operand) (n : ℕ) → with_number f m r ≡ Some (x, n) → ((v : ℕ) → r ≡ Some v → IsSaid a kind q (f v)) → IsSaid a kind q x
said_number a kind q f m None x n h s = absurd cc
said_number a kind q f m (Some v) x n h s = subst (IsSaid a kind q) (same_operand (f v) x m n h) (s v refl)

said_token : (a : ℕ) (kind q : OperandKind) (bytes : List ℕ) (x : Operand) (n : ℕ) → AreBytes bytes → takes_token q ≡ true → token_at a bytes ≡ Some (x, n) → IsSaid a kind q x
said_token a kind q bytes x n b t h = said_number a kind q (λ v. Tok a (token_of v)) 4 (num_at bytes 0 4) x n h (λ v e. let s = small_at bytes 0 4 v b e in record { said = t; operand = (refl, small_token v (omega arith)) })

said_switch : (a at : ℕ) (kind q : OperandKind) (bytes : List ℕ) (r : Option ℕ) (x : Operand) (n : ℕ) → takes_targets q ≡ true → switch_of at bytes r ≡ Some (x, n) → IsSaid a kind q x
said_switch a at kind q bytes None x n t h = absurd cc
said_switch a at kind q bytes (Some count) x n t h = go (nat_le (4 + 4 * count) (length bytes)) h
  where
    go : (b : Bool) → cond {A = Option (Operand × ℕ)} b (Some (Targets (cases (at + 4 + 4 * count) (drop 4 bytes) count), 4 + 4 * count)) None ≡ Some (x, n) → IsSaid a kind q x
    go true h = subst (IsSaid a kind q) (same_operand (Targets (cases (at + 4 + 4 * count) (drop 4 bytes) count)) x (4 + 4 * count) n h) (record { said = t; operand = tt })
    go false h = absurd cc

said : (a at : ℕ) (kind q : OperandKind) (bytes : List ℕ) (x : Operand) (n : ℕ) → AreBytes bytes → says_all kind q ≡ true → operand_at a at kind bytes ≡ Some (x, n) → IsSaid a kind q x
said a at op.Nothing q bytes x n b t h = subst (IsSaid a op.Nothing q) (same_operand Nothing x 0 n h) (record { said = t; operand = tt })
said a at op.Int8 q bytes x n b t h = said_number a op.Int8 q (λ v. Int (cast_signed w8 v)) 1 (slice_get bytes 0) x n h (λ v e. record { said = int32_takes q (cast_signed w8 v) t (signed_8 v (small_byte bytes v b e)); operand = tt })
said a at op.Int32 q bytes x n b t h = said_number a op.Int32 q (λ v. Int (cast_signed w32 v)) 4 (num_at bytes 0 4) x n h (λ v e. let s = small_at bytes 0 4 v b e in record { said = int32_takes q (cast_signed w32 v) t (signed_32 v (omega arith)); operand = tt })
said a at op.Int64 q bytes x n b t h = said_number a op.Int64 q (λ v. Int (cast_signed w64 v)) 8 (num_at bytes 0 8) x n h (λ v e. let s = small_at bytes 0 8 v b e in record { said = int64_takes q (cast_signed w64 v) t (signed_64 v (omega arith)); operand = tt })
said a at op.Index8 q bytes x n b t h = said_number a op.Index8 q Index 1 (slice_get bytes 0) x n h (λ v e. let s = small_byte bytes v b e in record { said = index_takes q v t (below v 0x10000 (omega arith)); operand = tt })
said a at op.Index16 q bytes x n b t h = said_number a op.Index16 q Index 2 (num_at bytes 0 2) x n h (λ v e. let s = small_at bytes 0 2 v b e in record { said = index_takes q v t (below v 0x10000 (omega arith)); operand = tt })
said a at op.Target8 q bytes x n b t h = said_number a op.Target8 q (λ v. Target (landing (at + 1) (sign_extend v))) 1 (slice_get bytes 0) x n h (λ v e. record { said = t; operand = tt })
said a at op.Target32 q bytes x n b t h = said_number a op.Target32 q (λ v. Target (landing (at + 4) v)) 4 (num_at bytes 0 4) x n h (λ v e. record { said = t; operand = tt })
said a at op.Targets q bytes x n b t h = said_switch a at op.Targets q bytes (num_at bytes 0 4) x n t h
said a at op.TypeToken q bytes x n b t h = said_token a op.TypeToken q bytes x n b t h
said a at op.FieldToken q bytes x n b t h = said_token a op.FieldToken q bytes x n b t h
said a at op.MethodToken q bytes x n b t h = said_token a op.MethodToken q bytes x n b t h
said a at op.StringToken q bytes x n b t h = said_token a op.StringToken q bytes x n b t h
said a at op.AnyToken q bytes x n b t h = said_token a op.AnyToken q bytes x n b t h
said a at (op.ThatIndex k) q bytes x n b t h =
    let p = and_both (is_index16 q) (nat_lt k 0x10000) t in
    subst (IsSaid a (op.ThatIndex k) q) (same_operand (Index k) x 0 n h) (record { said = index_takes q k p.0 p.1; operand = tt })
said a at (op.ThatInt z) q bytes x n b t h =
    let p = and_both (is_int32 q) (is_int32_number z) t in
    subst (IsSaid a (op.ThatInt z) q) (same_operand (Int z) x 0 n h) (record { said = int32_takes q z p.0 p.1; operand = tt })
said a at (op.Flag value) q bytes x n b t h = absurd cc
said a at op.Constrained q bytes x n b t h = absurd cc

-- ---- a spelling is found

found_by : (r : Opcode → Bool) (o q : Opcode) (rest : Option Opcode) (b : Bool) → r o ≡ b → r q ≡ true → (o ≡ q → b ≡ true) → (b ≡ false → is_some rest ≡ true) → is_some (cond b (Some o) rest) ≡ true
found_by r o q rest true e s f more = refl
found_by r o q rest false e s f more = more refl

found_too : (p r : Opcode → Bool) (os : List Opcode) (q : Opcode) → find p os ≡ Some q → r q ≡ true → is_some (find r os) ≡ true
found_too p r [] q h s = absurd cc
found_too p r (o ∷ os) q h s =
    ⊎_elim
    (λ x. let t : r o ≡ true = subst (λ (y : Opcode). r y ≡ true) (sym x.1) s in rw t refl)
    (λ x. found_by r o q (find r os) (r o) refl s (λ e. subst (λ (y : Opcode). r y ≡ true) (sym e) s) (λ e. found_too p r os q x.1 s))
    (split (p o) o q (find p os) h)

abbrev list_true : List Opcode → Type 0
list_true os = list_all (λ (o : Opcode). true) os ≡ true

any_true : (x : Opcode) (p : Opcode → Bool) (os : List Opcode) → list_true os → find p os ≡ Some x → p x ≡ true
any_true x p os h f = (passing p (λ o. true) os x h f).0

some_of : {X : Type 0} (o : Option X) → is_some o ≡ true → (x : X) × (o ≡ Some x)
some_of None h = absurd cc
some_of (Some x) h = (x, refl)

all_true : (os : List Opcode) → list_true os
all_true [] = refl
all_true (o ∷ os) = all_true os

pub spelled_again : (a at : ℕ) (o : Opcode) (bytes : List ℕ) (x : Operand) (n : ℕ) → AreBytes bytes → IsRow o → operand_at a at o.operand bytes ≡ Some (x, n) → (is_some (spelling_of o.long x) ≡ true) × IsReadOperand a x
spelled_again a at o bytes x n b row h =
    let found = some_of (long_row o) row.long in
    let q = found.0 in
    let test = any_true q (λ (q : Opcode). (q.long == o.long) && says_all o.operand q.operand) the_opcodes (all_true the_opcodes) found.1 in
    let p = and_both (q.long == o.long) (says_all o.operand q.operand) test in
    let s = said a at o.operand q.operand bytes x n b p.1 h in
    (found_too (λ (q : Opcode). (q.long == o.long) && says_all o.operand q.operand) (λ (q : Opcode). (q.long == o.long) && takes q.operand x) the_opcodes q found.1 (rw (p.0, s.said) refl), s.operand)

-- ---- instructions

-- what is known of an instruction that is read behind so many bytes
pub record IsRead (a taken : ℕ) (i : Instr) (n : ℕ) : Type 0 where
  pub spelled : is_some (spelling_of i.op i.operand) ≡ true
  pub operand : IsReadOperand a i.operand
  pub constrained : IfSome i.constrained IsSmallToken
  pub prefixes : i.prefixes < 8
  pub more : taken < n

with_it : (a at : ℕ) (o : Opcode) (bytes : List ℕ) (c : Option Token) (f before taken : ℕ) (r : Option (Operand × ℕ)) (i : Instr) (n : ℕ) → AreBytes bytes → IsRow o → IfSome c IsSmallToken → f < 8 → before < taken → operand_at a at o.operand bytes ≡ r → with_operand c f taken o.long r ≡ Ok (i, n) → IsRead a before i n
with_it a at o bytes c f before taken None i n b row t s m e h = absurd cc
with_it a at o bytes c f before taken (Some x) i n b row t s m e h =
    let again = spelled_again a at o bytes x.0 x.1 b row e in
    let j : Instr = record { op = o.long; operand = x.0; constrained = c; prefixes = f; under = None } in
    let first : Instr × ℕ = (j, taken + x.1) in
    let second : Instr × ℕ = (i, n) in
    let same : first ≡ second = cc in
    let all : IsRead a before j (taken + x.1) = record { spelled = again.0; operand = again.1; constrained = t; prefixes = s; more = omega arith } in
    subst (λ (p : Instr × ℕ). IsRead a before p.0 p.1) same all

weaker : (a before taken : ℕ) (i : Instr) (n : ℕ) → before ≤ taken → IsRead a taken i n → IsRead a before i n
weaker a before taken i n le r =
    let m = r.more in record { spelled = r.spelled; operand = r.operand; constrained = r.constrained; prefixes = r.prefixes; more = omega arith }

abbrev Reader : Type 0
Reader = Option Token → ℕ → ℕ → Reading

-- more codes give what is known
abbrev IsGood : ℕ → Reader → Type 0
IsGood a more = (c : Option Token) (f taken : ℕ) (i : Instr) (n : ℕ) → IfSome c IsSmallToken → f < 8 → more c f taken ≡ Ok (i, n) → IsRead a taken i n

typed_it : (a f before taken : ℕ) (more : Reader) (r : Option ℕ) (i : Instr) (n : ℕ) → IsGood a more → f < 8 → before < taken → ((v : ℕ) → r ≡ Some v → v < 2 ^ 32) → with_type more f taken r ≡ Ok (i, n) → IsRead a before i n
typed_it a f before taken more None i n good s m small h = absurd cc
typed_it a f before taken more (Some v) i n good s m small h =
    weaker a before (taken + 4) i n (omega arith) (good (Some (token_of v)) f (taken + 4) i n (small_token v (small v refl)) s h)

small_flag : (o : Opcode) (value : ℕ) → IsRow o → o.operand ≡ op.Flag value → value < 8
small_flag o value row e =
    let found = some_of (long_row o) row.long in
    let q = found.0 in
    let test = any_true q (λ (q : Opcode). (q.long == o.long) && says_all o.operand q.operand) the_opcodes (all_true the_opcodes) found.1 in
    let p = and_both (q.long == o.long) (says_all o.operand q.operand) test in
    less value 8 (subst (λ (k : OperandKind). says_all k q.operand ≡ true) e p.1)

behind_it : (a at : ℕ) (more : Reader) (o : Opcode) (kind : OperandKind) (bytes : List ℕ) (c : Option Token) (f before taken : ℕ) (i : Instr) (n : ℕ) → AreBytes bytes → IsRow o → o.operand ≡ kind → IsGood a more → IfSome c IsSmallToken → f < 8 → before < taken → behind more a at c f taken o.long bytes kind ≡ Ok (i, n) → IsRead a before i n
behind_it a at more o (op.Flag value) bytes c f before taken i n b row e good t s m h =
    weaker a before taken i n (omega arith) (good c (bit_or f value) taken i n t (or_lt 3 f value s (small_flag o value row e)) h)
behind_it a at more o op.Constrained bytes c f before taken i n b row e good t s m h =
    typed_it a f before taken more (num_at bytes 0 4) i n good s m (λ v k. let x = small_at bytes 0 4 v b k in omega arith) h
behind_it a at more o kind bytes c f before taken i n b row e good t s m h =
    with_it a (at + taken) o bytes c f before taken (operand_at a (at + taken) kind bytes) i n b row t s m (ap (λ (k : OperandKind). operand_at a (at + taken) k bytes) e) h

code_it : (a at : ℕ) (more : Reader) (bytes : List ℕ) (c : Option Token) (f taken : ℕ) (r : Result (Opcode × ℕ) Rule) (i : Instr) (n : ℕ) → AreBytes bytes → opcode_at (drop taken bytes) ≡ r → IsGood a more → IfSome c IsSmallToken → f < 8 → behind_code more a at bytes c f taken r ≡ Ok (i, n) → IsRead a taken i n
code_it a at more bytes c f taken (Err rule) i n b e good t s h = absurd cc
code_it a at more bytes c f taken (Ok x) i n b e good t s h =
    let some = some_at (drop taken bytes) x.0 x.1 e in
    behind_it a at more x.0 x.0.operand (drop (taken + x.1) bytes) c f taken (taken + x.1) i n (bytes_drop (taken + x.1) bytes b) (row_at (drop taken bytes) x.0 x.1 e) refl good t s (omega arith) h

is_good : (a at : ℕ) (bytes : List ℕ) (k : ℕ) → AreBytes bytes → IsGood a (prefixed a at bytes k)
unfolding prefixed
is_good a at bytes zero b c f taken i n t s h = absurd cc
is_good a at bytes (suc k) b c f taken i n t s h =
    code_it a at (prefixed a at bytes k) bytes c f taken (opcode_at (drop taken bytes)) i n b refl (is_good a at bytes k b) t s h

pub is_read : (a at : ℕ) (bytes : List ℕ) (i : Instr) (n : ℕ) → AreBytes bytes → instr_at a at bytes ≡ Ok (i, n) → IsRead a 0 i n
is_read a at bytes i n b h = is_good a at bytes (length bytes) b None 0 0 i n tt (omega arith) h
