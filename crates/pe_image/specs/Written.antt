-- The bytes of an image that has grown by one section (ECMA-335, II.25): where each of them comes from.
use Rattle.std.specs.Prelude.{◌≡◌, ◌⊎◌, ◌≤◌, ℕ, zero, suc, ◌+◌, ◌-◌, nat_lt, max, List, [], ◌∷◌, ◌++◌, length, bit_and, Result, Ok, Err, if◌then◌else◌}
use Rattle.std.specs.List.{concat}
use Rattle.cil_base.specs.Bytes.{number_bytes, zeros, part, between}
use Rattle.cil_base.specs.declared.refusal.Refusal.{Refusal}
use Rattle.pe_image.specs.declared.headers.Headers.{Headers}
use Rattle.pe_image.specs.declared.section.Section.{Section}
use Rattle.pe_image.specs.declared.cli.CliHeader.{CliHeader}
use Rattle.pe_image.specs.declared.growth.SectionGrowth.{SectionGrowth}
use Rattle.pe_image.specs.Headers.{headers_of, headers_size, table_end}
use Rattle.pe_image.specs.Sections.{section_at}
use Rattle.pe_image.specs.Cli.{cli_header_offset, cli_of}
use Rattle.pe_image.specs.SectionGrowth.{growth_in, growth_of, headers_growth}

-- What stands before the section table: one section more, no symbols, the new sizes, no checksum, and neither certificate
-- nor debug directory.
abbrev pub front : List ℕ → Headers → SectionGrowth → List (List ℕ)
front bytes h g =
    between bytes 0 (h.pe + 6) ∷ number_bytes 2 (h.count + 1) ∷
    between bytes (h.pe + 8) (h.pe + 12) ∷ zeros 8 ∷
    between bytes (h.pe + 20) (h.pe + 80) ∷ number_bytes 4 g.image_size ∷ number_bytes 4 g.headers_size ∷ zeros 4 ∷
    between bytes (h.pe + 92) (h.directories + 32) ∷ zeros 8 ∷
    between bytes (h.directories + 40) (h.directories + 48) ∷ zeros 8 ∷
    between bytes (h.directories + 56) h.sections ∷ []

-- where the raw bytes of an old section begin then
abbrev pub moved_offset : Section → ℕ → ℕ
moved_offset s by = if nat_lt 0 s.raw_size then s.raw_at + by else s.raw_at

abbrev pub moved_header : List ℕ → ℕ → ℕ → List (List ℕ)
moved_header bytes by at =
    between bytes at (at + 20) ∷ number_bytes 4 (moved_offset (section_at bytes at) by) ∷ between bytes (at + 24) (at + 40) ∷ []

-- the old section headers, with their raw bytes moved
abbrev pub moved_headers : List ℕ → ℕ → ℕ → ℕ → List ℕ
moved_headers bytes by at zero = []
moved_headers bytes by at (suc n) = concat (moved_header bytes by at) ++ moved_headers bytes by (at + 40) n

-- `.ccrw`, filled with zeros
abbrev pub section_name : List ℕ
section_name = 0x2E ∷ 0x63 ∷ 0x63 ∷ 0x72 ∷ 0x77 ∷ 0 ∷ 0 ∷ 0 ∷ []

-- the header of the new section: code that is executed and read
abbrev pub new_header : ℕ → SectionGrowth → List (List ℕ)
new_header len g =
    section_name ∷ number_bytes 4 len ∷ number_bytes 4 g.address ∷ number_bytes 4 g.raw_size ∷
    number_bytes 4 g.raw_at ∷ zeros 12 ∷ number_bytes 4 0x60000020 ∷ []

-- all headers, up to the new SizeOfHeaders
abbrev pub grown_front : List ℕ → Headers → SectionGrowth → ℕ → List ℕ
grown_front bytes h g len =
    concat (front bytes h g)
    ++ moved_headers bytes g.by h.sections h.count
    ++ concat (new_header len g)
    ++ between bytes (table_end h + 40) (headers_size bytes h)
    ++ zeros (g.headers_size - max (table_end h + 40) (headers_size bytes h))

-- the CLI header with other metadata, and without a strong name
abbrev pub grown_cli : CliHeader → ℕ → ℕ → CliHeader
grown_cli cli rva len = record cli { metadata_rva = rva; metadata_len = len; flags = bit_and cli.flags 0xFFFFFFF7 }

-- the old bytes behind the headers, where only the CLI header changes
abbrev pub kept_pieces : List ℕ → ℕ → ℕ → CliHeader → List (List ℕ)
kept_pieces bytes from cli_at cli =
    between bytes from (cli_at + 8) ∷
    number_bytes 4 cli.metadata_rva ∷ number_bytes 4 cli.metadata_len ∷ number_bytes 4 cli.flags ∷
    between bytes (cli_at + 20) (cli_at + 32) ∷ zeros 8 ∷
    between bytes (cli_at + 40) (length bytes) ∷ []

-- all sections, each new part at a multiple of FileAlignment
abbrev pub grown_rest : List ℕ → Headers → ℕ → CliHeader → List ℕ → SectionGrowth → List ℕ
grown_rest bytes h cli_at cli section g =
    concat (kept_pieces bytes (headers_size bytes h) cli_at cli)
    ++ zeros (g.raw_at - (length bytes + g.by))
    ++ section
    ++ zeros (g.raw_size - length section)

abbrev pub grown_image : List ℕ → Headers → ℕ → CliHeader → List ℕ → SectionGrowth → List ℕ
grown_image bytes h cli_at cli section g =
    grown_front bytes h g (length section) ++ grown_rest bytes h cli_at cli section g

abbrev pub grown_by : Result SectionGrowth Refusal → (SectionGrowth → List ℕ) → Result (List ℕ) Refusal
grown_by (Ok g) f = Ok (f g)
grown_by (Err r) f = Err r

abbrev pub grown_in : List ℕ → ℕ → Headers → ℕ → CliHeader → List ℕ → Result (List ℕ) Refusal
grown_in bytes a h cli_at cli section = grown_by (growth_in bytes a h (length section)) (grown_image bytes h cli_at cli section)

-- the image with one more section and with the metadata there, or why it can't be written
unfoldable pub grown_of : List ℕ → ℕ → List ℕ → ℕ → ℕ → Result (List ℕ) Refusal
grown_of bytes a section rva len =
    grown_in bytes a (headers_of bytes) (cli_header_offset bytes (headers_of bytes)) (grown_cli (cli_of bytes) rva len) section

-- The old bytes behind the headers, but for those of the CLI header, stand there as much further on as the headers grew.
pub record KeepsAt (old new : List ℕ) (h : Headers) (cli_at : ℕ) : Type 0 where
  pub kept : (at n : ℕ) → headers_size old h ≤ at → at + n ≤ length old → (at + n ≤ cli_at + 8) ⊎ (cli_at + 40 ≤ at) → part new (at + headers_growth old h) n ≡ part old at n

unfoldable pub KeepsBytes : List ℕ → List ℕ → Type 0
KeepsBytes old new = KeepsAt old new (headers_of old) (cli_header_offset old (headers_of old))

-- the offset of the raw bytes of a new section of so many bytes
unfoldable pub new_offset : List ℕ → ℕ → ℕ
new_offset bytes len = (growth_of bytes (headers_of bytes) len).raw_at
