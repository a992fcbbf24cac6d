-- What an instruction is given in one spelling, the longest one says too.
use Rattle.std.proofs.Common.{◌≡◌, ℕ, zero, suc, ◌+◌, ◌^◌, ◌<◌, Bool, true, false, cond, ◌&&◌, ℤ, List, [], ◌∷◌, length, drop, Option, Some, None, Ok, refl, ap, subst, arith}
use Rattle.std.specs.Prelude.{find, is_some, nat_lt, nat_le, slice_get, ◌==◌}
use Rattle.std.specs.Int.{w8, w32, w64, cast_signed}
use Rattle.std.specs.List.{list_all}
use Rattle.std.proofs.Math.Nat.{pow-suc}
use Rattle.std.proofs.lemmas.Grind.{common_steps}
use Rattle.std.proofs.lemmas.List.{get_or-drop}
use Rattle.byteorder.specs.Endian.{little_from}
use Rattle.cil_base.specs.Numbers.{num, num_at}
use Rattle.cil_base.specs.Tokens.{token_of}
use Rattle.il_opcodes.specs.declared.opcode.Opcode.{Opcode}
use Rattle.il_opcodes.specs.declared.opcode.OperandKind.{OperandKind}
use Rattle.il_opcodes.specs.declared.opcode.OperandKind.TheVariants as op
use Rattle.il_opcodes.specs.Opcodes.{opcode_of, the_opcodes}
use Rattle.cil_model.specs.BodyCode.{code_at, if_defined, opcode_at, opcode_for, second_of}
use Rattle.cil_model.specs.ValidBody.{AreBytes, IsSmallToken, is_within, takes_nothing, takes_target, takes_targets, takes_token}
use Rattle.il_body.proofs.SpellingLaws.{passing}

-- ---- the table

abbrev pub is_int32 : OperandKind → Bool
is_int32 op.Int32 = true
is_int32 kind = false

abbrev pub is_int64 : OperandKind → Bool
is_int64 op.Int64 = true
is_int64 kind = false

abbrev pub is_index16 : OperandKind → Bool
is_index16 op.Index16 = true
is_index16 kind = false

abbrev pub is_int32_number : ℤ → Bool
is_int32_number z = is_within (2 ^ 31) z

-- whether the second kind of operand says what the first does
abbrev pub says_all : OperandKind → OperandKind → Bool
says_all op.Nothing q = takes_nothing q
says_all op.Int8 q = is_int32 q
says_all op.Int32 q = is_int32 q
says_all op.Int64 q = is_int64 q
says_all op.Index8 q = is_index16 q
says_all op.Index16 q = is_index16 q
says_all op.Target8 q = takes_target q
says_all op.Target32 q = takes_target q
says_all op.Targets q = takes_targets q
says_all op.TypeToken q = takes_token q
says_all op.FieldToken q = takes_token q
says_all op.MethodToken q = takes_token q
says_all op.StringToken q = takes_token q
says_all op.AnyToken q = takes_token q
says_all (op.ThatIndex k) q = is_index16 q && nat_lt k 0x10000
says_all (op.ThatInt z) q = is_int32 q && is_int32_number z
says_all (op.Flag value) q = nat_lt value 8
says_all op.Constrained q = true

abbrev pub long_row : Opcode → Option Opcode
long_row o = find (λ (q : Opcode). (q.long == o.long) && says_all o.operand q.operand) the_opcodes

abbrev pub has_long : Opcode → Bool
has_long o = is_some (long_row o)

all_long : list_all has_long the_opcodes ≡ true
unfolding the_opcodes
all_long = refl

-- What is known of a row of the table.
pub record IsRow (o : Opcode) : Type 0 where
  pub long : has_long o ≡ true

pub is_row : (code : ℕ) (o : Opcode) → opcode_of code ≡ Some o → IsRow o
unfolding opcode_of
is_row code o h = record { long = (passing (λ (q : Opcode). q.code == code) has_long the_opcodes o all_long h).1 }

is_known : (r : Option Opcode) (o : Opcode) (n m : ℕ) → if_defined r n ≡ Ok (o, m) → (r ≡ Some o) × (n ≡ m)
is_known None o n m h = absurd cc
is_known (Some x) o n m h = let e : (x, n) ≡ (o, m) = cc in (ap (λ (p : Opcode × ℕ). Some p.0) e, ap (λ (p : Opcode × ℕ). p.1) e)

row_for : (c : Option (ℕ × ℕ)) (o : Opcode) (n : ℕ) → opcode_for c ≡ Ok (o, n) → IsRow o
row_for None o n h = absurd cc
row_for (Some (code, m)) o n h = is_row code o (is_known (opcode_of code) o m n h).0

pub row_at : (bytes : List ℕ) (o : Opcode) (n : ℕ) → opcode_at bytes ≡ Ok (o, n) → IsRow o
row_at bytes o n h = row_for (code_at bytes) o n h

abbrev is_sized : Option (ℕ × ℕ) → Type 0
is_sized None = Unit {0}
is_sized (Some (code, n)) = 0 < n

sized_second : (b : Option ℕ) → is_sized (second_of b)
sized_second None = tt
sized_second (Some b) = omega arith

sized_code : (bytes : List ℕ) → is_sized (code_at bytes)
sized_code [] = tt
sized_code (b ∷ rest) = go (b == 0xFE)
  where
    go : (t : Bool) → is_sized (cond t (second_of (slice_get rest 0)) (Some (b, 1)))
    go true = sized_second (slice_get rest 0)
    go false = omega arith

sized_for : (c : Option (ℕ × ℕ)) (o : Opcode) (n : ℕ) → is_sized c → opcode_for c ≡ Ok (o, n) → 0 < n
sized_for None o n s h = absurd cc
sized_for (Some (code, m)) o n s h = let e = (is_known (opcode_of code) o m n h).1 in omega arith

pub some_at : (bytes : List ℕ) (o : Opcode) (n : ℕ) → opcode_at bytes ≡ Ok (o, n) → 0 < n
some_at bytes o n h = sized_for (code_at bytes) o n (sized_code bytes) h

-- ---- numbers in bytes

pub small_from : (i n : ℕ) (bytes : List ℕ) → AreBytes bytes → little_from i n bytes < 256 ^ n
small_from i zero bytes b = omega arith
small_from i (suc n) bytes b =
    let byte = b i in let rest = small_from (suc i) n bytes b in
    rw (pow-suc 256 n) (omega arith)

pub bytes_drop : (n : ℕ) (bytes : List ℕ) → AreBytes bytes → AreBytes (drop n bytes)
bytes_drop n bytes b k = rw (get_or-drop n bytes k 0) (b (n + k))

pub small_num : (bytes : List ℕ) (at n : ℕ) → AreBytes bytes → num bytes at n < 256 ^ n
unfolding num
small_num bytes at n b = small_from 0 n (drop at bytes) (bytes_drop at bytes b)

pub small_at : (bytes : List ℕ) (at n v : ℕ) → AreBytes bytes → num_at bytes at n ≡ Some v → v < 256 ^ n
small_at bytes at n v b h = go (nat_le (at + n) (length bytes)) h
  where
    go : (t : Bool) → cond t (Some (num bytes at n)) None ≡ Some v → v < 256 ^ n
    go true h = let e : num bytes at n ≡ v = cc in let s = small_num bytes at n b in subst (λ (x : ℕ). x < 256 ^ n) e s
    go false h = absurd cc

pub small_byte : (bytes : List ℕ) (v : ℕ) → AreBytes bytes → slice_get bytes 0 ≡ Some v → v < 256
small_byte [] v b h = absurd cc
small_byte (x ∷ bytes) v b h = let e : x ≡ v = cc in let s = b 0 in subst (λ (y : ℕ). y < 256) e s

pub small_token : (v : ℕ) → v < 2 ^ 32 → IsSmallToken (token_of v)
small_token v h = (omega arith, omega arith)

pub signed_8 : (v : ℕ) → v < 256 → is_int32_number (cast_signed w8 v) ≡ true
signed_8 v h = grind (arith, common_steps)

pub signed_32 : (v : ℕ) → v < 2 ^ 32 → is_int32_number (cast_signed w32 v) ≡ true
signed_32 v h = grind (arith, common_steps)

pub signed_64 : (v : ℕ) → v < 2 ^ 64 → is_within (2 ^ 63) (cast_signed w64 v) ≡ true
signed_64 v h = grind (arith, common_steps)
