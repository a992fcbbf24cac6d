-- The headers of an image (ECMA-335, II.25.2). All fields are numbers at offsets of the file.
use Rattle.std.specs.Prelude.{ℕ, ◌+◌, ◌*◌, ◌^◌, ◌<◌, ◌≤◌, Bool, ◌==◌, nat_le, List, length, if◌then◌else◌}
use Rattle.cil_base.specs.Numbers.{num}
use Rattle.pe_image.specs.declared.headers.Headers.{Headers}

-- the file has so many bytes
abbrev pub reaches : List ℕ → ℕ → Bool
reaches bytes end = nat_le end (length bytes)

-- where the PE signature stands, II.25.2.1
abbrev pub pe_of : List ℕ → ℕ
pe_of bytes = num bytes 60 4

-- PE32+ has a longer optional header than PE32
abbrev pub is_plus : ℕ → Bool
is_plus magic = magic == 0x20B

-- where the parts of the header stand, II.25.2.2 and II.25.2.3
abbrev pub headers_at : List ℕ → ℕ → Headers
headers_at bytes pe = record {
  pe = pe;
  directories = pe + 24 + (if is_plus (num bytes (pe + 24) 2) then 112 else 96);
  sections = pe + 24 + num bytes (pe + 20) 2;
  count = num bytes (pe + 6) 2;
}

abbrev pub headers_of : List ℕ → Headers
headers_of bytes = headers_at bytes (pe_of bytes)

-- the fields of the optional header, II.25.2.3.1 and II.25.2.3.2
abbrev pub section_alignment : List ℕ → Headers → ℕ
section_alignment bytes h = num bytes (h.pe + 56) 4

abbrev pub file_alignment : List ℕ → Headers → ℕ
file_alignment bytes h = num bytes (h.pe + 60) 4

abbrev pub headers_size : List ℕ → Headers → ℕ
headers_size bytes h = num bytes (h.pe + 84) 4

-- the RVA of the CLI header, in directory 14
abbrev pub cli_rva : List ℕ → Headers → ℕ
cli_rva bytes h = num bytes (h.directories + 112) 4

-- where the section table ends
abbrev pub table_end : Headers → ℕ
table_end h = h.sections + 40 * h.count

-- The parts stand in order, and below 2 ^ 33.
pub record Fit (h : Headers) : Type 0 where
  pub near : h.pe + 120 ≤ h.directories
  pub far : h.directories + 120 ≤ h.sections
  pub small : h.sections < 2 ^ 33
  pub few : h.count < 2 ^ 16

-- FileAlignment is from 512 to 65,536, and SectionAlignment is no smaller.
pub record Aligned (bytes : List ℕ) (h : Headers) : Type 0 where
  pub low : 512 ≤ file_alignment bytes h
  pub high : file_alignment bytes h ≤ 65536
  pub order : file_alignment bytes h ≤ section_alignment bytes h
