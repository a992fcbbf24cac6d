-- Bytes read as a text: UTF-8 from left to right, and U+FFFD for each byte that begins no whole character (RFC 3629, section 4).
use Rattle.std.specs.Prelude.{ℕ, zero, suc, ◌+◌, ◌-◌, ◌*◌, ◌/◌, ◌%◌, Bool, ◌&&◌, ◌||◌, nat_lt, nat_le, if◌then◌else◌, List, [], ◌∷◌, ◌++◌, Option, Some, None}

-- a character: its code, and how many bytes it takes after the first
abbrev pub Char : Type 0
Char = ℕ × ℕ

abbrev pub continues : ℕ → Bool
continues b = nat_le 0x80 b && nat_lt b 0xC0

-- a code of so many bytes, neither too small for them nor a surrogate nor past the last
abbrev pub if_scalar : ℕ → ℕ → ℕ → Option Char
if_scalar least more code =
    if nat_le least code && ((nat_lt code 0xD800 || nat_le 0xE000 code) && nat_lt code 0x110000) then Some (code, more) else None

abbrev pub two : ℕ → List ℕ → Option Char
two a (b ∷ rest) = if continues b then if_scalar 0x80 1 ((a % 32) * 64 + b % 64) else None
two a [] = None

abbrev pub three : ℕ → List ℕ → Option Char
three a (b ∷ c ∷ rest) = if continues b && continues c then if_scalar 0x800 2 ((a % 16) * 4096 + (b % 64) * 64 + c % 64) else None
three a (b ∷ []) = None
three a [] = None

abbrev pub four : ℕ → List ℕ → Option Char
four a (b ∷ c ∷ d ∷ rest) =
    if continues b && (continues c && continues d) then if_scalar 0x10000 3 ((a % 8) * 262144 + (b % 64) * 4096 + (c % 64) * 64 + d % 64) else None
four a (b ∷ c ∷ []) = None
four a (b ∷ []) = None
four a [] = None

-- the character that begins with a byte
abbrev pub char_from : ℕ → List ℕ → Option Char
char_from a rest =
    if nat_lt a 0x80 then Some (a, 0)
    else if nat_lt a 0xC0 then None
    else if nat_lt a 0xE0 then two a rest
    else if nat_lt a 0xF0 then three a rest
    else if nat_lt a 0xF8 then four a rest
    else None

-- its units in UTF-16 (RFC 2781, section 2.1)
abbrev pub units_of : ℕ → List ℕ
units_of code =
    if nat_lt code 0x10000 then code ∷ [] else (0xD800 + (code - 0x10000) / 1024) ∷ (0xDC00 + (code - 0x10000) % 1024) ∷ []

abbrev pub units_or : Option Char → List ℕ
units_or None = 0xFFFD ∷ []
units_or (Some c) = units_of c.0

abbrev pub passed : Option Char → ℕ
passed None = 0
passed (Some c) = c.1

-- the units of what is left, where so many bytes are still of the character before
unfoldable pub units_from : ℕ → List ℕ → List ℕ
units_from n [] = []
units_from zero (b ∷ rest) = units_or (char_from b rest) ++ units_from (passed (char_from b rest)) rest
units_from (suc n) (b ∷ rest) = units_from n rest

abbrev pub text_units : List ℕ → List ℕ
text_units bytes = units_from 0 bytes
