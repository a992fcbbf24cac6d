-- Numbers at offsets, the lowest byte first.
use Rattle.std.specs.Prelude.{ℕ, ◌+◌, ◌-◌, ◌^◌, List, drop, length, Option, Some, None, nat_le, if◌then◌else◌, min}
use Rattle.byteorder.specs.Endian.{little_number}

-- the number of so many bytes at an offset
unfoldable pub num : List ℕ → ℕ → ℕ → ℕ
num bytes at width = little_number width (drop at bytes)

-- the same, where it doesn't pass the end
abbrev pub num_at : List ℕ → ℕ → ℕ → Option ℕ
num_at bytes at width = if nat_le (at + width) (length bytes) then Some (num bytes at width) else None

-- an offset as it is printed: one past the last u32 is printed as the last
abbrev pub printed_offset : ℕ → ℕ
printed_offset at = min at (2 ^ 32 - 1)
