-- The hash of a key of numbers (own).
use Rattle.std.specs.Prelude.{ℕ, ◌*◌, ◌/◌, ◌%◌, ◌^◌, List, bit_xor, Option, Some, None}
use Rattle.cil_base.specs.Numbers.{num_at}
use Rattle.members.specs.declared.hasher.KeyHasher.{KeyHasher}

abbrev pub number_or_zero : Option ℕ → ℕ
number_or_zero None = 0
number_or_zero (Some n) = n

-- the number in the first four bytes, or 0 where there are fewer
abbrev pub first_number : List ℕ → ℕ
first_number bytes = number_or_zero (num_at bytes 0 4)

-- the state after a write
abbrev pub key_write : KeyHasher → List ℕ → KeyHasher
key_write h bytes = record { state = (bit_xor h.state (first_number bytes) * 0x9e3779b97f4a7c15) % 2 ^ 64 }

-- its two halves, joined in the lower one
abbrev pub key_finish : KeyHasher → ℕ
key_finish h = bit_xor h.state (h.state / 2 ^ 32)
