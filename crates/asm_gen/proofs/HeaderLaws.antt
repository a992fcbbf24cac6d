-- The header fields of a sample's image.
use Rattle.std.proofs.Common.{◌≡◌, ℕ, ◌+◌, ◌^◌, ◌<◌, ◌≤◌, List, ◌++◌, length, drop, refl, arith}
use Rattle.cil_base.specs.Numbers.{num}
use Rattle.pe_image.specs.declared.headers.Headers.{Headers}
use Rattle.pe_image.specs.declared.section.Section.{Section}
use Rattle.pe_image.specs.Headers.{headers_of, section_alignment, file_alignment, headers_size, cli_rva}
use Rattle.pe_image.specs.Sections.{section_at}
use Rattle.cil_base.specs.Bytes.{number_bytes}
use Rattle.cil_base.proofs.PieceLaws.{num_back}
use Rattle.std.specs.List.{concat}
use Rattle.asm_gen.specs.Layout.{code_address, cli_header, headers, optional_header, section_table, text_size, text_raw, resource_address, relocation_address, resource_at, relocation_at, file_size}

pub long : (len entry : ℕ) → length (headers len entry) ≡ 0x200
unfolding headers optional_header section_table number_bytes
long len entry = refl

-- where the parts of the headers stand
abbrev pub stands : Headers
stands = record { pe = 0x80; directories = 0xF8; sections = 0x178; count = 3 }

pub stands_there : (len entry : ℕ) (t : List ℕ) → headers_of (headers len entry ++ t) ≡ stands
unfolding headers optional_header section_table number_bytes num
stands_there len entry t = refl

-- the fields that are the same in each image
pub record Fields (b : List ℕ) : Type 0 where
  pub mz : num b 0 2 ≡ 0x5A4D
  pub signature : num b 0x80 4 ≡ 0x4550
  pub magic : num b 0x98 2 ≡ 0x10B
  pub size : num b 0x94 2 ≡ 0xE0
  pub sections : section_alignment b stands ≡ 0x2000
  pub file : file_alignment b stands ≡ 0x200
  pub headers : headers_size b stands ≡ 0x200
  pub cli : cli_rva b stands ≡ 0x2000

pub fields : (len entry : ℕ) (t : List ℕ) → Fields (headers len entry ++ t)
unfolding headers optional_header section_table number_bytes num
fields len entry t = record { mz = refl; signature = refl; magic = refl; size = refl; sections = refl; file = refl; headers = refl; cli = refl }

-- ---- the sections

-- a number that stands at an offset
reads : (b : List ℕ) (at n : ℕ) → n < 2 ^ 32 → drop at b ≡ number_bytes 4 n ++ drop (at + 4) b → num b at 4 ≡ n
reads b at n small e = num_back 4 b at n (drop (at + 4) b) e small

-- a section header whose fields these are
is_section : (b : List ℕ) (at size address raw raw_at : ℕ) → num b (at + 8) 4 ≡ size → num b (at + 12) 4 ≡ address → num b (at + 16) 4 ≡ raw → num b (at + 20) 4 ≡ raw_at → section_at b at ≡ record { virtual_size = size; address = address; raw_size = raw; raw_at = raw_at }
is_section b at size address raw raw_at e f g h = simp (e, f, g, h)

abbrev pub text_section : ℕ → Section
text_section len = record { virtual_size = text_size len; address = 0x2000; raw_size = text_raw len; raw_at = 0x200 }

abbrev pub resource_section : ℕ → Section
resource_section len = record { virtual_size = 0x200; address = resource_address len; raw_size = 0x200; raw_at = resource_at len }

abbrev pub relocation_section : ℕ → Section
relocation_section len = record { virtual_size = 0x200; address = relocation_address len; raw_size = 0x200; raw_at = relocation_at len }

pub text : (len entry : ℕ) (t : List ℕ) → file_size len ≤ 2 ^ 27 → section_at (headers len entry ++ t) 0x178 ≡ text_section len
unfolding headers optional_header section_table number_bytes
text len entry t small =
    let b = headers len entry ++ t in
    is_section b 0x178 (text_size len) 0x2000 (text_raw len) 0x200
    (reads b 0x180 (text_size len) (omega arith) refl) (reads b 0x184 0x2000 (omega arith) refl) (reads b 0x188 (text_raw len) (omega arith) refl) (reads b 0x18C 0x200 (omega arith) refl)

pub resource : (len entry : ℕ) (t : List ℕ) → file_size len ≤ 2 ^ 27 → section_at (headers len entry ++ t) 0x1A0 ≡ resource_section len
unfolding headers optional_header section_table number_bytes
resource len entry t small =
    let b = headers len entry ++ t in
    is_section b 0x1A0 0x200 (resource_address len) 0x200 (resource_at len)
    (reads b 0x1A8 0x200 (omega arith) refl) (reads b 0x1AC (resource_address len) (omega arith) refl) (reads b 0x1B0 0x200 (omega arith) refl) (reads b 0x1B4 (resource_at len) (omega arith) refl)

pub relocation : (len entry : ℕ) (t : List ℕ) → file_size len ≤ 2 ^ 27 → section_at (headers len entry ++ t) 0x1C8 ≡ relocation_section len
unfolding headers optional_header section_table number_bytes
relocation len entry t small =
    let b = headers len entry ++ t in
    is_section b 0x1C8 0x200 (relocation_address len) 0x200 (relocation_at len)
    (reads b 0x1D0 0x200 (omega arith) refl) (reads b 0x1D4 (relocation_address len) (omega arith) refl) (reads b 0x1D8 0x200 (omega arith) refl) (reads b 0x1DC (relocation_at len) (omega arith) refl)

-- ---- the CLI header, behind the headers

pub record CliFields (b : List ℕ) (rva len entry : ℕ) : Type 0 where
  pub metadata_rva : num b 0x208 4 ≡ rva
  pub metadata_len : num b 0x20C 4 ≡ len
  pub flags : num b 0x210 4 ≡ 1
  pub entry_is : num b 0x214 4 ≡ entry

pub cli_fields : (len entry code metadata : ℕ) (t : List ℕ) → code_address + code < 2 ^ 32 → metadata < 2 ^ 32 → entry < 2 ^ 32 → CliFields (headers len entry ++ (concat (cli_header code metadata entry) ++ t)) (code_address + code) metadata entry
unfolding headers optional_header section_table number_bytes
cli_fields len entry code metadata t c m e =
    let b = headers len entry ++ (concat (cli_header code metadata entry) ++ t) in
    record {
      metadata_rva = reads b 0x208 (code_address + code) c refl;
      metadata_len = reads b 0x20C metadata m refl;
      flags = reads b 0x210 1 (omega arith) refl;
      entry_is = reads b 0x214 entry e refl;
    }
