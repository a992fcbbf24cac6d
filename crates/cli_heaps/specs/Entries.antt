-- Entries of the heaps (ECMA-335, II.24.2.3 to II.24.2.5). Offset 0 has the empty entry, also where there is no heap.
use Rattle.std.specs.Prelude.{ℕ, ◌+◌, ◌*◌, ◌-◌, Bool, ◌||◌, ◌==◌, nat_le, List, [], length, take, drop, Option, Some, None, is_some, position, if◌then◌else◌}
use Rattle.std.specs.Option.{option_map}
use Rattle.cil_base.specs.Packed.{packed_at}
use Rattle.cli_heaps.specs.Root.{is_zero}

-- the bytes up to the first zero byte
abbrev pub until_zero : List ℕ → Option (List ℕ)
until_zero bytes = option_map (λ n. take n bytes) (position is_zero bytes)

abbrev pub string_at : List ℕ → ℕ → Option (List ℕ)
string_at heap at = if at == 0 then Some [] else until_zero (drop at heap)

-- so many bytes from an offset on, where there are as many
abbrev pub bytes_at : List ℕ → ℕ → ℕ → Option (List ℕ)
bytes_at heap at n = if nat_le (at + n) (length heap) then Some (take n (drop at heap)) else None

-- what stands behind a length, of which and of whose width we know
abbrev pub counted_at : List ℕ → ℕ → Option (ℕ × ℕ) → Option (List ℕ)
counted_at heap at None = None
counted_at heap at (Some (n, width)) = bytes_at heap (at + width) n

-- a compressed length and that many bytes
abbrev pub blob_at : List ℕ → ℕ → Option (List ℕ)
blob_at heap at = if at == 0 then Some [] else counted_at heap at (packed_at heap at)

-- 16 bytes, numbered from 1
abbrev pub guid_at : List ℕ → ℕ → Option (List ℕ)
guid_at heap index = if index == 0 then None else bytes_at heap (16 * (index - 1)) 16

-- 0 names no identifier
abbrev pub is_guid_index : List ℕ → ℕ → Bool
is_guid_index heap index = (index == 0) || is_some (guid_at heap index)
