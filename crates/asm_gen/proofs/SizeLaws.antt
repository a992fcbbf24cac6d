-- How the sizes of an image's parts are to each other.
use Rattle.std.proofs.Common.{ℕ, ◌≤◌, arith}
use Rattle.std.specs.Int.{next_multiple_of}

-- raw bytes are no longer than what they take in memory
pub raw_within : (n : ℕ) → next_multiple_of n 0x200 ≤ next_multiple_of n 0x2000
raw_within n = omega arith

pub raw_covers : (n : ℕ) → n ≤ next_multiple_of n 0x200
raw_covers n = omega arith
