-- Compressed numbers (ECMA-335, II.23.2), as texts of bytes. A longer spelling than needed counts too.
use Rattle.std.specs.Prelude.{◌≡◌, ℕ, ◌+◌, ◌*◌, ◌/◌, ◌%◌, ◌<◌, ◌≤◌, ◌==◌, Bool, true, nat_lt, List, [], ◌∷◌, length, ℤ, pos, ◌-ℤ◌, if◌then◌else◌}

-- an unsigned number: one byte below 0x80, two from 0x80, four from 0xC0, the highest first
abbrev pub IsPacked : List ℕ → ℕ → Type 0
IsPacked [] n = ⊥
IsPacked (a ∷ []) n = (a < 0x80) × (n ≡ a)
IsPacked (a ∷ b ∷ []) n = (0x80 ≤ a) × (a < 0xC0) × (b < 0x100) × (n + 0x8000 ≡ 0x100 * a + b)
IsPacked (a ∷ b ∷ c ∷ []) n = ⊥
IsPacked (a ∷ b ∷ c ∷ d ∷ []) n = (0xC0 ≤ a) × (a < 0xE0) × (b < 0x100) × (c < 0x100) × (d < 0x100) × (n + 0xC0000000 ≡ 0x1000000 * a + 0x10000 * b + 0x100 * c + d)
IsPacked (a ∷ b ∷ c ∷ d ∷ e ∷ bytes) n = ⊥

-- a spelling of so many bytes reaches from -half to half - 1
abbrev pub half_of : ℕ → ℕ
half_of bytes = if bytes == 1 then 0x40 else if bytes == 2 then 0x2000 else 0x10000000

-- the sign is the lowest bit, and the others are those of two's complement
abbrev pub unrotated : ℕ → ℕ → ℤ
unrotated half u = if u % 2 == 0 then pos (u / 2) else (pos (u / 2) -ℤ pos half)

-- a signed number
abbrev pub IsSigned : List ℕ → ℤ → Type 0
IsSigned bytes z = (u : ℕ) × IsPacked bytes u × (z ≡ unrotated (half_of (length bytes)) u)

-- ---- how numbers are spelled

-- a spelling, and no other of the value is shorter
pub record IsShortest {A : Type 0} (G : List ℕ → A → Type 0) (bytes : List ℕ) (v : A) : Type 0 where
  pub spelled : G bytes v
  pub least : (other : List ℕ) → G other v → length bytes ≤ length other

-- each number in any of its spellings, or in its shortest
pub data Spelling : Type 0 where
  Any : Spelling
  Shortest : Spelling

abbrev pub IsNumber : Spelling → List ℕ → ℕ → Type 0
IsNumber Any = IsPacked
IsNumber Shortest = IsShortest IsPacked

abbrev pub IsSignedNumber : Spelling → List ℕ → ℤ → Type 0
IsSignedNumber Any = IsSigned
IsSignedNumber Shortest = IsShortest IsSigned

-- ---- TypeDefOrRefOrSpecEncoded (II.23.2.8)

-- the two lowest bits are the tag of a table, and 3 is the tag of none
abbrev pub has_table : ℕ → Bool
has_table coded = nat_lt (coded % 4) 3

abbrev pub IsCodedBy : Spelling → List ℕ → ℕ → Type 0
IsCodedBy s bytes coded = IsNumber s bytes coded × (has_table coded ≡ true)

abbrev pub IsCoded : List ℕ → ℕ → Type 0
IsCoded = IsCodedBy Any
