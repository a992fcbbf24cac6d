-- Numbers that are written read back.
use Rattle.std.proofs.Common.{◌≡◌, ℕ, ◌+◌, ◌/◌, ◌%◌, ◌^◌, ◌<◌, ◌≤◌, true, ℤ, pos, negsuc, List, ◌++◌, length, drop, Some, refl, ap, arith}
use Rattle.std.specs.Int.{w8, w16, w32, w64, cast_signed, cast_unsigned, bytes_low_first, to_le_bytes}
use Rattle.std.specs.Prelude.{nat_le}
use Rattle.std.proofs.lemmas.Grind.{common_steps}
use Rattle.std.proofs.lemmas.Int.{to_z-of_z}
use Rattle.cil_base.specs.declared.token.Token.{Token}
use Rattle.cil_base.specs.Numbers.{num, num_at}
use Rattle.cil_base.specs.Bytes.{number_bytes}
use Rattle.cil_base.proofs.PieceLaws.{room_behind}
use Rattle.cil_base.proofs.PieceLaws.{num_back as number_back}
use Rattle.cil_base.proofs.Small.{less}
use Rattle.cil_base.specs.Tokens.{token_of, token_number}
use Rattle.il_body.specs.BodyEncoding.{displacement}
use Rattle.cil_model.specs.ValidBody.{is_within}

pub num_back : (n : ℕ) (bytes : List ℕ) (at v : ℕ) (rest : List ℕ) → drop at bytes ≡ bytes_low_first 0 n v ++ rest → v < 256 ^ n → num bytes at n ≡ v
unfolding number_bytes
num_back n bytes at v rest e small = number_back n bytes at v rest e small

pub num_at_back : (bytes : List ℕ) (at v : ℕ) (rest : List ℕ) → drop at bytes ≡ to_le_bytes w32 v ++ rest → v < 2 ^ 32 → num_at bytes at 4 ≡ Some v
num_at_back bytes at v rest e small =
    let n = room_behind bytes at (to_le_bytes w32 v) rest e (omega arith) in
    let inside : nat_le (at + 4) (length bytes) ≡ true = grind (arith, common_steps) in
    rw inside (ap Some (num_back 4 bytes at v rest e small))

pub two_at_front : (v : ℕ) (rest : List ℕ) → v < 2 ^ 16 → num_at (to_le_bytes w16 v ++ rest) 0 2 ≡ Some v
two_at_front v rest small =
    let inside : nat_le (0 + 2) (length (to_le_bytes w16 v ++ rest)) ≡ true = grind (arith, common_steps) in
    rw inside (ap Some (num_back 2 (to_le_bytes w16 v ++ rest) 0 v rest refl small))

pub eight_at_front : (v : ℕ) (rest : List ℕ) → v < 2 ^ 64 → num_at (to_le_bytes w64 v ++ rest) 0 8 ≡ Some v
eight_at_front v rest small =
    let inside : nat_le (0 + 8) (length (to_le_bytes w64 v ++ rest)) ≡ true = grind (arith, common_steps) in
    rw inside (ap Some (num_back 8 (to_le_bytes w64 v ++ rest) 0 v rest refl small))

pub token_back : (token : Token) → token.row < 2 ^ 24 → token_of (token_number token) ≡ token
token_back token r =
    let p : token_number token / 2 ^ 24 ≡ token.table = omega arith in
    let q : token_number token % 2 ^ 24 ≡ token.row = omega arith in
    rw (p, q) refl

pub lands : (p e : ℕ) → p < 2 ^ 32 → e ≤ 2 ^ 32 → (e + displacement p e) % 2 ^ 32 ≡ p
lands p e h k = omega arith

pub small_displacement : (p e : ℕ) → displacement p e < 2 ^ 32
small_displacement p e = omega arith

-- ---- signed numbers

pub back_8 : (z : ℤ) → is_within 0x80 z ≡ true → cast_signed w8 (cast_unsigned w8 z) ≡ z
back_8 (pos n) h = let s = less n 0x80 h in to_z-of_z w8 (pos n) (record { sfits = omega arith })
back_8 (negsuc n) h = let s = less n 0x80 h in to_z-of_z w8 (negsuc n) (record { sfits = omega arith })

pub back_32 : (z : ℤ) → is_within (2 ^ 31) z ≡ true → cast_signed w32 (cast_unsigned w32 z) ≡ z
back_32 (pos n) h = let s = less n (2 ^ 31) h in to_z-of_z w32 (pos n) (record { sfits = omega arith })
back_32 (negsuc n) h = let s = less n (2 ^ 31) h in to_z-of_z w32 (negsuc n) (record { sfits = omega arith })

pub back_64 : (z : ℤ) → is_within (2 ^ 63) z ≡ true → cast_signed w64 (cast_unsigned w64 z) ≡ z
back_64 (pos n) h = let s = less n (2 ^ 63) h in to_z-of_z w64 (pos n) (record { sfits = omega arith })
back_64 (negsuc n) h = let s = less n (2 ^ 63) h in to_z-of_z w64 (negsuc n) (record { sfits = omega arith })

pub small_32 : (z : ℤ) → is_within (2 ^ 31) z ≡ true → cast_unsigned w32 z < 2 ^ 32
small_32 (pos n) h = let s = less n (2 ^ 31) h in grind arith
small_32 (negsuc n) h = let s = less n (2 ^ 31) h in grind arith

pub small_64 : (z : ℤ) → is_within (2 ^ 63) z ≡ true → cast_unsigned w64 z < 2 ^ 64
small_64 (pos n) h = let s = less n (2 ^ 63) h in grind arith
small_64 (negsuc n) h = let s = less n (2 ^ 63) h in grind arith
