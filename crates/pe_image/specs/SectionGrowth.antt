-- How an image grows by one section (ECMA-335, II.25.2 and II.25.3): where it comes to stand.
use Rattle.std.specs.Prelude.{ℕ, ◌+◌, ◌-◌, ◌^◌, Bool, ◌&&◌, nat_lt, nat_le, max, List, [], ◌∷◌, length, Result, Ok, Err, if◌then◌else◌}
use Rattle.std.specs.Int.{next_multiple_of}
use Rattle.cil_base.specs.declared.rule.Rule.TheVariants.{P5, L6}
use Rattle.cil_base.specs.declared.refusal.Refusal.{Refusal}
use Rattle.cil_base.specs.Refusals.{refusal, assembly_place, limit_refusal}
use Rattle.cil_base.specs.declared.limits.TheConstants.{IMAGE_LIMIT}
use Rattle.pe_image.specs.declared.headers.Headers.{Headers}
use Rattle.pe_image.specs.declared.section.Section.{Section}
use Rattle.pe_image.specs.declared.growth.SectionGrowth.{SectionGrowth}
use Rattle.pe_image.specs.Headers.{headers_of, headers_size, file_alignment, section_alignment, table_end}
use Rattle.pe_image.specs.Sections.{sections_of, address_end}

-- the end of the sections' RVAs
abbrev pub addresses_end : List Section → ℕ
addresses_end [] = 0
addresses_end (s ∷ rest) = max (address_end s) (addresses_end rest)

abbrev pub first_address : List Section → ℕ
first_address [] = 0
first_address (s ∷ rest) = s.address

-- By how much the headers grow: the fewest units of FileAlignment that make room for one more section header.
abbrev pub headers_growth : List ℕ → Headers → ℕ
headers_growth bytes h = next_multiple_of (table_end h + 40 - headers_size bytes h) (file_alignment bytes h)

abbrev pub grown_headers : List ℕ → Headers → ℕ
grown_headers bytes h = headers_size bytes h + headers_growth bytes h

-- the RVA of the new section, behind all others
abbrev pub new_address : List ℕ → Headers → ℕ
new_address bytes h = next_multiple_of (addresses_end (sections_of bytes h)) (section_alignment bytes h)

-- The headers stay before the first section, the count is a number of two bytes, and so is each RVA one of four.
abbrev pub has_room : List ℕ → Headers → Bool
has_room bytes h =
    nat_le (grown_headers bytes h) (first_address (sections_of bytes h))
    && (nat_lt h.count 65535
    && nat_lt (next_multiple_of (new_address bytes h + IMAGE_LIMIT) (section_alignment bytes h)) (2 ^ 32))

-- no room, at the field of SizeOfHeaders
abbrev pub no_room : ℕ → Headers → Refusal
no_room a h = refusal P5 (assembly_place a) (h.pe + 84)

-- the RVA of a new section, or the refusal where there is no room for its header
abbrev pub room_in : List ℕ → ℕ → Headers → Result ℕ Refusal
room_in bytes a h = if has_room bytes h then Ok (new_address bytes h) else Err (no_room a h)

unfoldable pub room_of : List ℕ → ℕ → Result ℕ Refusal
room_of bytes a = room_in bytes a (headers_of bytes)

-- where the new section of so many bytes comes to stand, and what the header fields on sizes become
abbrev pub growth_of : List ℕ → Headers → ℕ → SectionGrowth
growth_of bytes h len = record {
  by = headers_growth bytes h;
  headers_size = grown_headers bytes h;
  address = new_address bytes h;
  raw_at = next_multiple_of (length bytes + headers_growth bytes h) (file_alignment bytes h);
  raw_size = next_multiple_of len (file_alignment bytes h);
  image_size = next_multiple_of (new_address bytes h + next_multiple_of len (file_alignment bytes h)) (section_alignment bytes h);
}

-- the length of the written image
abbrev pub grown_len : SectionGrowth → ℕ
grown_len g = g.raw_at + g.raw_size

-- over 128 MiB
abbrev pub too_long : Refusal
too_long = limit_refusal L6 IMAGE_LIMIT

abbrev pub growth_in : List ℕ → ℕ → Headers → ℕ → Result SectionGrowth Refusal
growth_in bytes a h len =
    if has_room bytes h
    then (if nat_lt IMAGE_LIMIT (grown_len (growth_of bytes h len)) then Err too_long else Ok (growth_of bytes h len))
    else Err (no_room a h)
