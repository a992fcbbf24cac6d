-- Which types and members code of a type may name by their access (ECMA-335, I.8.5.3, II.23.1.5, II.23.1.10 and II.23.1.15; what is of its own assembly is widened where it is to be named, this project's own).
use Rattle.std.specs.Prelude.{ℕ, zero, suc, ◌%◌, Bool, true, false, ◌&&◌, ◌||◌, ◌==◌, not, if◌then◌else◌, List, length, Option, option_map}
use Rattle.std.specs.List.{filter_map}
use Rattle.cil_model.specs.declared.program.Program.{Program}
use Rattle.cil_model.specs.declared.program.TypeDesc.{TypeDesc}
use Rattle.cil_model.specs.declared.ty.Ty.{Ty, out-Ty, Known}
use Rattle.cil_semantics.specs.Dispatch.{bases}
use Rattle.cil_semantics.specs.Lookups.{in_set, type_of}
use Rattle.cil_semantics.specs.Words.{any, maybe}
use Rattle.member_access.specs.declared.reader.Reader.{Reader}

-- the number of a type of the set
abbrev pub number_of : Ty → Option ℕ
number_of t = option_map (λ (d : ℕ × List Ty). d.0) (in_set (out-Ty t))

-- Who names: a type of an assembly, with the numbers of its bases, the nearest first.
abbrev pub reader : Program → ℕ → ℕ → Reader
reader p assembly t = record { assembly = assembly; ty = t; bases = filter_map number_of (bases p (Known t)) }

abbrev pub has_base : Reader → ℕ → Bool
has_base r k = any (λ b. b == k) r.bases

-- ---- types

-- public, or nested and public
abbrev pub is_open_type : ℕ → Bool
is_open_type flags = (flags % 8 == 1) || (flags % 8 == 2)

-- nested, and family or famorassem
abbrev pub is_family_type : ℕ → Bool
is_family_type flags = (flags % 8 == 4) || (flags % 8 == 7)

-- outside the set, of the own assembly, or a family type of a base
abbrev pub is_near : Reader → TypeDesc → Bool
is_near r d = d.outside || ((d.assembly == r.assembly) || (is_family_type d.flags && maybe false (has_base r) d.enclosing))

-- A type may be named: it is near, or public as is each type around it, up to one that is near.
abbrev pub names_within : ℕ → Program → Reader → ℕ → Bool
names_within zero p r k = false
names_within (suc n) p r k = is_near r (type_of p k) || (is_open_type (type_of p k).flags && maybe true (names_within n p r) (type_of p k).enclosing)

-- Nestings don't form a cycle.
unfoldable pub names_type : Program → Reader → ℕ → Bool
names_type p r k = names_within (length p.types) p r k

-- ---- fields and methods

abbrev pub is_public : ℕ → Bool
is_public flags = flags % 8 == 6

-- family or famorassem
abbrev pub is_family : ℕ → Bool
is_family flags = (flags % 8 == 4) || (flags % 8 == 5)

-- within an assembly all but a family-and-assembly member of another type, which nothing widens
abbrev pub names_own : Reader → ℕ → ℕ → Bool
names_own r owner flags = not (flags % 8 == 2) || (owner == r.ty)

abbrev pub names_foreign : Program → Reader → ℕ → ℕ → Bool
names_foreign p r owner flags = (is_public flags && names_type p r owner) || (is_family flags && has_base r owner)

-- A member with these flags of a type may be named.
unfoldable pub names_member : Program → Reader → ℕ → ℕ → Bool
names_member p r owner flags =
    (type_of p owner).outside
    || (if (type_of p owner).assembly == r.assembly then names_own r owner flags else names_foreign p r owner flags)
