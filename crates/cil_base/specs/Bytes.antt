-- Bytes that are written: numbers with the lowest byte first, zeros, bytes up to a multiple, and pieces of bytes.
use Rattle.std.specs.Prelude.{◌≡◌, ℕ, ◌+◌, ◌-◌, ◌%◌, List, ◌++◌, length, take, drop, replicate}
use Rattle.byteorder.specs.Endian.{little_bytes}

-- the lowest so many bytes of a number
unfoldable pub number_bytes : ℕ → ℕ → List ℕ
number_bytes width n = little_bytes width n

abbrev pub zeros : ℕ → List ℕ
zeros n = replicate n 0

-- how many bytes are missing to a multiple
abbrev pub padding : ℕ → ℕ → ℕ
padding unit n = (unit - n % unit) % unit

-- with zeros up to a multiple
abbrev pub padded : ℕ → List ℕ → List ℕ
padded unit bytes = bytes ++ zeros (padding unit (length bytes))

-- so many bytes from an offset on; fewer where the list ends before
abbrev pub part : List ℕ → ℕ → ℕ → List ℕ
part bytes at n = take n (drop at bytes)

-- the bytes from an offset up to another
abbrev pub between : List ℕ → ℕ → ℕ → List ℕ
between bytes from to = part bytes from (to - from)

-- The piece stands in the bytes at the offset.
pub record IsAt (bytes : List ℕ) (at : ℕ) (piece : List ℕ) : Type 0 where
  pub before : List ℕ
  pub after : List ℕ
  pub offset : length before ≡ at
  pub split : bytes ≡ before ++ (piece ++ after)
