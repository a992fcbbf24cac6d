-- The section table (ECMA-335, II.25.3), and the bytes at an RVA.
use Rattle.std.specs.Prelude.{ℕ, zero, suc, ◌+◌, ◌-◌, Bool, ◌&&◌, nat_le, max, List, [], ◌∷◌, find, Option, option_map, unwrap_or}
use Rattle.cil_base.specs.Numbers.{num}
use Rattle.cil_base.specs.Bytes.{part}
use Rattle.pe_image.specs.declared.headers.Headers.{Headers}
use Rattle.pe_image.specs.declared.section.Section.{Section}
use Rattle.pe_image.specs.Headers.{headers_of}

-- the section whose header stands at an offset
abbrev pub section_at : List ℕ → ℕ → Section
section_at bytes at = record {
  virtual_size = num bytes (at + 8) 4;
  address = num bytes (at + 12) 4;
  raw_size = num bytes (at + 16) 4;
  raw_at = num bytes (at + 20) 4;
}

-- so many sections, whose headers stand one after another
abbrev pub sections_at : List ℕ → ℕ → ℕ → List Section
sections_at bytes at zero = []
sections_at bytes at (suc n) = section_at bytes at ∷ sections_at bytes (at + 40) n

abbrev pub sections_of : List ℕ → Headers → List Section
sections_of bytes h = sections_at bytes h.sections h.count

-- where the RVAs and the raw bytes of a section end
abbrev pub address_end : Section → ℕ
address_end s = s.address + max s.virtual_size s.raw_size

abbrev pub raw_end : Section → ℕ
raw_end s = s.raw_at + s.raw_size

-- a range of RVAs lies in the section's raw bytes
abbrev pub holds : ℕ → ℕ → Section → Bool
holds rva len s = nat_le s.address rva && nat_le (rva + len) (s.address + s.raw_size)

-- the section that holds the range
abbrev pub section_of : List ℕ → Headers → ℕ → ℕ → Option Section
section_of bytes h rva len = find (holds rva len) (sections_of bytes h)

-- the offset in the file of an RVA of the section
abbrev pub offset_in : Section → ℕ → ℕ
offset_in s rva = s.raw_at + (rva - s.address)

-- the bytes at a range of RVAs
abbrev pub at_rva : List ℕ → ℕ → ℕ → Option (List ℕ)
at_rva bytes rva len = option_map (λ s. part bytes (offset_in s rva) len) (section_of bytes (headers_of bytes) rva len)

-- the bytes from an RVA to the end of its section's raw bytes
abbrev pub tail_at : List ℕ → ℕ → Option (List ℕ)
tail_at bytes rva =
    option_map (λ s. part bytes (offset_in s rva) (s.address + s.raw_size - rva)) (section_of bytes (headers_of bytes) rva 1)

-- the bytes at an RVA that is known to be there
abbrev pub bytes_at : List ℕ → ℕ → ℕ → List ℕ
bytes_at bytes rva len = unwrap_or (at_rva bytes rva len) []
