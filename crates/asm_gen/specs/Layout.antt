-- The bytes of an image with the sections .text, .rsrc and .reloc (ECMA-335, II.25). PE32, no directory but the CLI header's.
use Rattle.std.specs.Prelude.{ℕ, ◌+◌, ◌-◌, ◌==◌, if◌then◌else◌, List, [], ◌∷◌, ◌++◌, length, codes}
use Rattle.std.specs.List.{concat}
use Rattle.std.specs.Int.{next_multiple_of}
use Rattle.asm_gen.specs.declared.image.Sizes.{Sizes}
use Rattle.cil_base.specs.Bytes.{number_bytes, zeros}

-- ---- where the parts stand; the sections are code and metadata of so many bytes, and twice 0x200 zeros

-- behind the CLI header
abbrev pub code_address : ℕ
code_address = 0x2048

abbrev pub text_size : ℕ → ℕ
text_size len = 72 + len

abbrev pub text_raw : ℕ → ℕ
text_raw len = next_multiple_of (text_size len) 0x200

abbrev pub resource_address : ℕ → ℕ
resource_address len = 0x2000 + next_multiple_of (text_size len) 0x2000

abbrev pub relocation_address : ℕ → ℕ
relocation_address len = resource_address len + 0x2000

abbrev pub image_size : ℕ → ℕ
image_size len = resource_address len + 0x4000

abbrev pub resource_at : ℕ → ℕ
resource_at len = 0x200 + text_raw len

abbrev pub relocation_at : ℕ → ℕ
relocation_at len = resource_at len + 0x200

abbrev pub file_size : ℕ → ℕ
file_size len = relocation_at len + 0x200

abbrev pub sizes_of : ℕ → Sizes
sizes_of len = record { len = len; text_size = text_size len; text_raw = text_raw len; resource_address = resource_address len }

-- ---- headers

-- II.25.2.1
abbrev pub dos_header : List (List ℕ)
dos_header = codes "MZ" ∷ zeros 58 ∷ number_bytes 4 0x80 ∷ zeros 64 ∷ []

-- a program where there is an entry point, and else a library
abbrev pub characteristics : ℕ → ℕ
characteristics entry = if entry == 0 then 0x2102 else 0x102

-- II.25.2.2: for an I386 machine, three sections
abbrev pub coff_header : ℕ → List (List ℕ)
coff_header entry =
    number_bytes 4 0x4550 ∷ number_bytes 2 0x14C ∷ number_bytes 2 3 ∷ zeros 12 ∷ number_bytes 2 0xE0 ∷ number_bytes 2 (characteristics entry) ∷ []

-- II.25.2.3.1: sizes of code and data, no native entry point, and where code and data begin
abbrev pub standard_fields : ℕ → List (List ℕ)
standard_fields len =
    number_bytes 2 0x10B ∷ number_bytes 2 8 ∷ number_bytes 4 (text_raw len) ∷ number_bytes 4 0x400 ∷ zeros 8 ∷ number_bytes 4 0x2000 ∷ number_bytes 4 (resource_address len) ∷ []

-- II.25.2.3.2: the image base, alignments, versions 4.0, sizes
abbrev pub image_fields : ℕ → List (List ℕ)
image_fields len =
    number_bytes 4 0x400000 ∷ number_bytes 4 0x2000 ∷ number_bytes 4 0x200 ∷ number_bytes 4 4 ∷ number_bytes 4 0 ∷ number_bytes 4 4 ∷ zeros 4 ∷ number_bytes 4 (image_size len) ∷ number_bytes 4 0x200 ∷ zeros 4 ∷ []

-- a console program; stack and heap; 16 directories, of which the fifteenth is the CLI header's
abbrev pub directories : List (List ℕ)
directories =
    number_bytes 2 3 ∷ number_bytes 2 0x8540 ∷ number_bytes 4 0x100000 ∷ number_bytes 4 0x1000 ∷ number_bytes 4 0x100000 ∷ number_bytes 4 0x1000 ∷ zeros 4 ∷ number_bytes 4 16 ∷ zeros 112 ∷ number_bytes 4 0x2000 ∷ number_bytes 4 72 ∷ zeros 8 ∷ []

-- II.25.3; a name has 8 bytes
abbrev pub section_header : List ℕ → ℕ → ℕ → ℕ → ℕ → ℕ → List (List ℕ)
section_header name size address raw raw_at flags =
    name ∷ number_bytes 4 size ∷ number_bytes 4 address ∷ number_bytes 4 raw ∷ number_bytes 4 raw_at ∷ zeros 12 ∷ number_bytes 4 flags ∷ []

abbrev pub text_header : ℕ → List (List ℕ)
text_header len = section_header (codes ".text" ++ zeros 3) (text_size len) 0x2000 (text_raw len) 0x200 0x60000020

abbrev pub resource_header : ℕ → List (List ℕ)
resource_header len = section_header (codes ".rsrc" ++ zeros 3) 0x200 (resource_address len) 0x200 (resource_at len) 0x40000040

abbrev pub relocation_header : ℕ → List (List ℕ)
relocation_header len = section_header (codes ".reloc" ++ zeros 2) 0x200 (relocation_address len) 0x200 (relocation_at len) 0x42000040

unfoldable pub optional_header : ℕ → List ℕ
optional_header len = concat (standard_fields len) ++ concat (image_fields len) ++ concat directories

unfoldable pub section_table : ℕ → List ℕ
section_table len = concat (text_header len) ++ concat (resource_header len) ++ concat (relocation_header len)

-- 0x200 bytes
unfoldable pub headers : ℕ → ℕ → List ℕ
headers len entry = concat dos_header ++ concat (coff_header entry) ++ optional_header len ++ section_table len ++ zeros 16

-- II.25.3.3: runtime 2.5, the metadata behind the code, IL only
abbrev pub cli_header : ℕ → ℕ → ℕ → List (List ℕ)
cli_header code metadata entry =
    number_bytes 4 72 ∷ number_bytes 2 2 ∷ number_bytes 2 5 ∷ number_bytes 4 (code_address + code) ∷ number_bytes 4 metadata ∷ number_bytes 4 1 ∷ number_bytes 4 entry ∷ zeros 48 ∷ []

-- ---- the image

abbrev pub image_of : List ℕ → List ℕ → ℕ → ℕ → List ℕ
image_of code metadata entry len =
    headers len entry
    ++ concat (cli_header (length code) (length metadata) entry)
    ++ code ++ metadata ++ zeros (text_raw len - text_size len) ++ zeros 0x400

-- code and metadata behind the CLI header; the token of the entry point, or 0
unfoldable pub image : List ℕ → List ℕ → ℕ → List ℕ
image code metadata entry = image_of code metadata entry (length code + length metadata)
