-- The rules on images (ECMA-335, II.25), each with its offset. A field is tested where the fields that lead to it are in order.
use Rattle.std.specs.Prelude.{◌⊎◌, ℕ, zero, suc, ◌+◌, Bool, not, ◌||◌, ◌&&◌, ◌==◌, nat_lt, nat_le, List, [], ◌∷◌, ◌++◌, map, Option, Some, Result, Ok, Err, is_some, bit_and, if◌then◌else◌}
use Rattle.std.specs.List.{list_any}
use Rattle.cil_base.specs.declared.rule.Rule.{Rule}
use Rattle.cil_base.specs.declared.rule.Rule.TheVariants.{P1, P2, P3, P4, P6}
use Rattle.cil_base.specs.declared.refusal.Refusal.{Refusal}
use Rattle.cil_base.specs.Refusals.{refusal, assembly_place, Test, Fails, NoneBroken}
use Rattle.cil_base.specs.Numbers.{num, printed_offset}
use Rattle.pe_image.specs.declared.headers.Headers.{Headers}
use Rattle.pe_image.specs.declared.fields.Field.{Field}
use Rattle.pe_image.specs.declared.section.Section.{Section}
use Rattle.pe_image.specs.Headers.{reaches, pe_of, is_plus, headers_at, headers_of, section_alignment, file_alignment, headers_size, cli_rva, table_end}
use Rattle.pe_image.specs.Sections.{section_at, address_end, raw_end, section_of}
use Rattle.pe_image.specs.Cli.{cli_header_offset}

-- a rule at an offset of the file
abbrev pub test : Rule → ℕ → ℕ → Bool → Test
test rule a at fails = record { refusal = refusal rule (assembly_place a) at; fails = fails }

-- ---- P6: fields that pass the end of the file

abbrev pub cut : List ℕ → ℕ → ℕ → ℕ → Test
cut bytes a at width = test P6 a (printed_offset at) (not (reaches bytes (at + width)))

-- fields behind an offset
abbrev pub cuts : List ℕ → ℕ → ℕ → List Field → List Test
cuts bytes a at fields = map (λ f. cut bytes a (at + f.offset) f.width) fields

-- ---- P3: the sections

-- The section begins before the headers or the section before it end, or its raw bytes pass the end of the file.
abbrev pub is_misplaced : List ℕ → ℕ → ℕ → Section → Bool
is_misplaced bytes address_floor raw_floor s =
    nat_lt s.address address_floor
    || (nat_lt 0 s.raw_size && (nat_lt s.raw_at raw_floor || not (reaches bytes (raw_end s))))

abbrev pub field : ℕ → ℕ → Field
field offset width = record { offset = offset; width = width }

-- II.25.3: name, VirtualSize, VirtualAddress, SizeOfRawData, PointerToRawData, Characteristics
abbrev pub section_fields : List Field
section_fields = field 0 8 ∷ field 8 4 ∷ field 12 4 ∷ field 16 4 ∷ field 20 4 ∷ field 36 4 ∷ []

-- so many section headers from an offset on, where the RVAs and raw bytes before them end at the floors
abbrev pub section_tests : List ℕ → ℕ → ℕ → ℕ → ℕ → ℕ → List Test
section_tests bytes a address_floor raw_floor at zero = []
section_tests bytes a address_floor raw_floor at (suc n) =
    if reaches bytes (at + 40)
    then test P3 a at (is_misplaced bytes address_floor raw_floor (section_at bytes at)) ∷
    section_tests bytes a (address_end (section_at bytes at))
    (if nat_lt 0 (section_at bytes at).raw_size then raw_end (section_at bytes at) else raw_floor) (at + 40) n
    else cuts bytes a at section_fields

-- ---- the optional header

-- SizeOfImage, SizeOfHeaders, CheckSum, and directories 4, 6 and 14 with the RVA and the size of each
abbrev pub size_fields : List Field
size_fields = field 80 4 ∷ field 84 4 ∷ field 88 4 ∷ []

abbrev pub directory_fields : List Field
directory_fields = field 32 4 ∷ field 36 4 ∷ field 48 4 ∷ field 52 4 ∷ field 112 4 ∷ field 116 4 ∷ []

-- no section header passes the end of the file
abbrev pub is_whole : List ℕ → Headers → Bool
is_whole bytes h = (h.count == 0) || reaches bytes (table_end h)

-- The section table is whole, and no section has the CLI header.
abbrev pub has_no_cli : List ℕ → Headers → Bool
has_no_cli bytes h = is_whole bytes h && not (is_some (section_of bytes h (cli_rva bytes h) 72))

abbrev pub directory_tests : List ℕ → ℕ → Headers → List Test
directory_tests bytes a h =
    if reaches bytes (h.directories + 120)
    then test P4 a (h.directories + 112) (has_no_cli bytes h) ∷
    section_tests bytes a (headers_size bytes h) (headers_size bytes h) h.sections h.count
    else cuts bytes a h.pe size_fields ++ cuts bytes a h.directories directory_fields

-- a power of two from 512 to 65,536
abbrev pub is_file_alignment : ℕ → Bool
is_file_alignment n =
    list_any (λ power. n == power) (512 ∷ 1024 ∷ 2048 ∷ 4096 ∷ 8192 ∷ 16384 ∷ 32768 ∷ 65536 ∷ [])

abbrev pub optional_tests : List ℕ → ℕ → Headers → List Test
optional_tests bytes a h =
    if reaches bytes (h.pe + 64)
    then test P3 a (h.pe + 56) (nat_lt (section_alignment bytes h) (file_alignment bytes h)) ∷
    test P3 a (h.pe + 60) (not (is_file_alignment (file_alignment bytes h))) ∷
    directory_tests bytes a h
    else cuts bytes a h.pe (field 56 4 ∷ field 60 4 ∷ [])

-- ---- the COFF header and the signatures

abbrev pub is_magic : ℕ → Bool
is_magic magic = (magic == 0x10B) || is_plus magic

-- the optional header is too short for its directories
abbrev pub is_short : ℕ → ℕ → Bool
is_short magic size = ((magic == 0x10B) && nat_lt size 216) || (is_plus magic && nat_lt size 232)

abbrev pub coff_tests : List ℕ → ℕ → ℕ → List Test
coff_tests bytes a pe =
    if reaches bytes (pe + 26)
    then test P2 a (pe + 20) (is_short (num bytes (pe + 24) 2) (num bytes (pe + 20) 2)) ∷
    test P2 a (pe + 24) (not (is_magic (num bytes (pe + 24) 2))) ∷
    (if is_magic (num bytes (pe + 24) 2) && not (is_short (num bytes (pe + 24) 2) (num bytes (pe + 20) 2))
    then optional_tests bytes a (headers_at bytes pe)
    else [])
    else cuts bytes a pe (field 6 2 ∷ field 20 2 ∷ field 24 2 ∷ [])

abbrev pub has_pe : List ℕ → ℕ → Bool
has_pe bytes pe = reaches bytes (pe + 4) && (num bytes pe 4 == 0x4550)

abbrev pub pe_tests : List ℕ → ℕ → ℕ → List Test
pe_tests bytes a pe = test P1 a pe (not (has_pe bytes pe)) ∷ (if has_pe bytes pe then coff_tests bytes a pe else [])

abbrev pub has_mz : List ℕ → Bool
has_mz bytes = reaches bytes 2 && (num bytes 0 2 == 0x5A4D)

-- the headers, in the order of their offsets
abbrev pub header_tests : List ℕ → ℕ → List Test
header_tests bytes a =
    test P1 a 0 (not (has_mz bytes)) ∷
    (if reaches bytes 64
    then test P1 a 60 (nat_lt (pe_of bytes) 64) ∷ (if nat_le 64 (pe_of bytes) then pe_tests bytes a (pe_of bytes) else [])
    else cut bytes a 60 4 ∷ [])

-- ---- P4: the CLI header, II.25.3.3

-- ILONLY is set, and the native entry point is not
abbrev pub is_il_only : ℕ → Bool
is_il_only flags = bit_and flags 0x11 == 1

abbrev pub cli_tests_at : List ℕ → ℕ → Headers → ℕ → List Test
cli_tests_at bytes a h cli =
    test P4 a (cli + 8) (not (is_some (section_of bytes h (num bytes (cli + 8) 4) (num bytes (cli + 12) 4)))) ∷
    test P4 a (cli + 16) (not (is_il_only (num bytes (cli + 16) 4))) ∷
    []

abbrev pub cli_tests : List ℕ → ℕ → Headers → List Test
cli_tests bytes a h = cli_tests_at bytes a h (cli_header_offset bytes h)

-- ---- all of them

-- A rule on the headers is broken, or none of them is, and a rule on the CLI header is.
unfoldable pub Broken : List ℕ → ℕ → Refusal → Type 0
Broken bytes a r =
    Fails (header_tests bytes a) r
    ⊎ (NoneBroken (Fails (header_tests bytes a)) × Fails (cli_tests bytes a (headers_of bytes)) r)

-- what a part of the tests refuses, or else what the tests that follow do
abbrev pub goes_on : {T : Type 0} → Result T Refusal → Option Refusal → Option Refusal
goes_on (Ok x) later = later
goes_on (Err r) later = Some r
