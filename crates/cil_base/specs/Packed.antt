-- Compressed unsigned numbers (ECMA-335, II.23.2): one byte below 0x80, two from 0x80, four from 0xC0, the highest first.
use Rattle.std.specs.Prelude.{ℕ, ◌+◌, ◌-◌, ◌*◌, ◌/◌, ◌%◌, ◌^◌, List, [], ◌∷◌, drop, Option, Some, None, nat_lt, if◌then◌else◌}

abbrev pub packed_two : ℕ → List ℕ → Option (ℕ × ℕ)
packed_two a [] = None
packed_two a (b ∷ rest) = Some (2 ^ 8 * (a - 0x80) + b, 2)

abbrev pub packed_four : ℕ → List ℕ → Option (ℕ × ℕ)
packed_four a [] = None
packed_four a (b ∷ []) = None
packed_four a (b ∷ c ∷ []) = None
packed_four a (b ∷ c ∷ d ∷ rest) = Some (2 ^ 24 * (a - 0xC0) + 2 ^ 16 * b + 2 ^ 8 * c + d, 4)

-- the number at the front of the bytes and how many bytes it takes; a longer spelling than needed counts too
abbrev pub packed_front : List ℕ → Option (ℕ × ℕ)
packed_front [] = None
packed_front (a ∷ rest) =
    if nat_lt a 0x80 then Some (a, 1)
    else if nat_lt a 0xC0 then packed_two a rest
    else if nat_lt a 0xE0 then packed_four a rest
    else None

-- the number at a place
abbrev pub packed_at : List ℕ → ℕ → Option (ℕ × ℕ)
packed_at bytes at = packed_front (drop at bytes)

-- the shortest spelling of a number below 2 ^ 29
abbrev pub packed_spelling : ℕ → List ℕ
packed_spelling n =
    if nat_lt n 0x80 then n ∷ []
    else if nat_lt n 0x4000 then (0x80 + n / 2 ^ 8) ∷ (n % 2 ^ 8) ∷ []
    else (0xC0 + n / 2 ^ 24) ∷ (n / 2 ^ 16 % 2 ^ 8) ∷ (n / 2 ^ 8 % 2 ^ 8) ∷ (n % 2 ^ 8) ∷ []
