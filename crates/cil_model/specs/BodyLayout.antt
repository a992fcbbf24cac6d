-- The header, the code and the sections of a method body (ECMA-335, II.25.4).
use Rattle.std.specs.Prelude.{ℕ, zero, suc, ◌+◌, ◌-◌, ◌*◌, ◌/◌, ◌%◌, Bool, false, ◌==◌, ◌&&◌, ◌||◌, nat_lt, nat_le, if◌then◌else◌, List, [], ◌∷◌, ◌++◌, length, take, drop, Option, Some, None}
use Rattle.std.specs.List.{list_all}
use Rattle.cil_base.specs.declared.token.Token.{Token}
use Rattle.cil_base.specs.Numbers.{num, num_at}
use Rattle.cil_base.specs.Tokens.{token_of, token_number}
use Rattle.cil_model.specs.declared.layout.Layout.{Layout}
use Rattle.cil_model.specs.declared.layout.MethodHeader.{MethodHeader}
use Rattle.cil_model.specs.declared.layout.Section.{Section}
use Rattle.cil_model.specs.declared.layout.RawClause.{RawClause}

-- ---- headers

-- one byte: the low bits are 2, the upper six the size of the code
abbrev pub tiny_header : ℕ → MethodHeader
tiny_header b = record { size = 1; code_size = b / 4; max_stack = 8; init = false; locals = None; more = false }

abbrev pub bit : ℕ → ℕ → Bool
bit value n = n / value % 2 == 1

-- a size of three words and the bits 3, and beside them only 8 for sections and 16 for locals set to zero
abbrev pub are_fat_flags : ℕ → Bool
are_fat_flags n = (n % 8 == 3) && (n / 32 == 0x180)

abbrev pub locals_of : ℕ → Option Token
locals_of v = if v == 0 then None else Some (token_of v)

-- A token of 0 says that there are no locals.
abbrev pub locals_number : Option Token → ℕ
locals_number None = 0
locals_number (Some token) = token_number token

abbrev pub fat_header : ℕ → List ℕ → MethodHeader
fat_header flags bytes =
    record { size = 12; code_size = num bytes 4 4; max_stack = num bytes 2 2; init = bit 16 flags; locals = locals_of (num bytes 8 4); more = bit 8 flags }

abbrev pub if_fat : ℕ → List ℕ → Option MethodHeader
if_fat flags bytes = if are_fat_flags flags && nat_le 12 (length bytes) then Some (fat_header flags bytes) else None

abbrev pub header_of : List ℕ → Option MethodHeader
header_of [] = None
header_of (b ∷ rest) = if b % 4 == 2 then Some (tiny_header b) else if_fat (num (b ∷ rest) 0 2) (b ∷ rest)

-- ---- sections

-- the next multiple of four
abbrev pub aligned : ℕ → ℕ
aligned n = (n + 3) / 4 * 4

abbrev pub width : Bool → ℕ
width fat = if fat then 24 else 12

-- The first byte says that it is an exception section, 0x40 that its clauses are fat and its size has three bytes, and 0x80 that another follows.
abbrev pub are_sized : Bool → ℕ → Bool
are_sized fat size = nat_le 4 size && ((size - 4) % width fat == 0) && (fat || nat_lt size 0x100)

abbrev pub section_with : Bool → ℕ → ℕ → ℕ → Section
section_with fat kind size at =
    record { fat = fat; more = bit 0x80 kind; from = at + 4; count = (size - 4) / width fat; end = at + size }

abbrev pub if_sized : Bool → ℕ → ℕ → ℕ → ℕ → Option Section
if_sized fat kind size at count =
    if (kind % 0x40 == 1) && are_sized fat size && nat_le (at + size) count then Some (section_with fat kind size at) else None

abbrev pub section_of : Option ℕ → ℕ → ℕ → Option Section
section_of None at count = None
section_of (Some v) at count = if_sized (bit 0x40 v) (v % 0x100) (v / 0x100) at count

-- the section at a place, if it is whole
abbrev pub section_at : List ℕ → ℕ → Option Section
section_at bytes at = section_of (num_at bytes at 4) at (length bytes)

-- ---- clauses

abbrev pub small_clause : List ℕ → ℕ → RawClause
small_clause bytes at =
    record { flags = num bytes at 2; try_from = num bytes (at + 2) 2; try_size = num bytes (at + 4) 1; handler_from = num bytes (at + 5) 2; handler_size = num bytes (at + 7) 1; last = num bytes (at + 8) 4 }

abbrev pub fat_clause : List ℕ → ℕ → RawClause
fat_clause bytes at =
    record { flags = num bytes at 4; try_from = num bytes (at + 4) 4; try_size = num bytes (at + 8) 4; handler_from = num bytes (at + 12) 4; handler_size = num bytes (at + 16) 4; last = num bytes (at + 20) 4 }

abbrev pub clause_at : Bool → List ℕ → ℕ → RawClause
clause_at fat bytes at = if fat then fat_clause bytes at else small_clause bytes at

-- the first n clauses of a section
abbrev pub clauses : Bool → List ℕ → ℕ → ℕ → List RawClause
clauses fat bytes from zero = []
clauses fat bytes from (suc n) = clauses fat bytes from n ++ clause_at fat bytes (from + width fat * n) ∷ []

-- catch, filter, finally or fault
abbrev pub is_kind : RawClause → Bool
is_kind c = (c.flags == 0) || (c.flags == 1) || (c.flags == 2) || (c.flags == 4)

abbrev pub clauses_of : List ℕ → Section → List RawClause
clauses_of bytes s = clauses s.fat bytes s.from s.count

-- ---- the whole

abbrev pub before : List RawClause → Option (List RawClause × ℕ) → Option (List RawClause × ℕ)
before cs None = None
before cs (Some (ds, end)) = Some (cs ++ ds, end)

abbrev pub with_section : (ℕ → Option (List RawClause × ℕ)) → List ℕ → Option Section → Option (List RawClause × ℕ)
with_section more bytes None = None
with_section more bytes (Some s) =
    if list_all is_kind (clauses_of bytes s) then (if s.more then before (clauses_of bytes s) (more s.end) else Some (clauses_of bytes s, s.end)) else None

-- the clauses of the sections behind a place, and where the last section ends; none where there are no such sections
unfoldable pub sections_at : List ℕ → ℕ → ℕ → Option (List RawClause × ℕ)
sections_at bytes zero at = None
sections_at bytes (suc k) at = with_section (sections_at bytes k) bytes (section_at bytes (aligned at))

abbrev pub with_clauses : MethodHeader → Option (List RawClause × ℕ) → Option Layout
with_clauses h None = None
with_clauses h (Some (cs, end)) = Some (record { header = h; clauses = cs; len = end })

abbrev pub behind_code : List ℕ → MethodHeader → ℕ → Option (List RawClause × ℕ)
behind_code bytes h end = if h.more then sections_at bytes (length bytes) end else Some ([], end)

abbrev pub layout_with : List ℕ → Option MethodHeader → Option Layout
layout_with bytes None = None
layout_with bytes (Some h) =
    if nat_le (h.size + h.code_size) (length bytes) then with_clauses h (behind_code bytes h (h.size + h.code_size)) else None

-- the layout of the body that the bytes begin with; none where one isn't whole or has other bits
unfoldable pub layout_of : List ℕ → Option Layout
layout_of bytes = layout_with bytes (header_of bytes)

abbrev pub code_of : List ℕ → MethodHeader → List ℕ
code_of bytes h = take h.code_size (drop h.size bytes)
