-- What a builder holds of the assembly that it makes.
use Rattle.std.specs.Prelude.{◌≡◌, ◌⊎◌, ◌<◌, ◌≤◌, ℕ, ◌+◌, List, [], length}
use Rattle.cil_base.specs.declared.refusal.Refusal.{Refusal}
use Rattle.cil_base.specs.declared.limits.TheConstants.{IMAGE_LIMIT}
use Rattle.cil_base.specs.Refusals.{NoneBroken, Fails}
use Rattle.cli_heaps.specs.Root as root
use Rattle.heap_writer.specs.Growth.{HeapGrowths, no_growth}
use Rattle.heap_writer.specs.Written.{parts, written_root, IsWritten, EntriesRead, limit_tests}
use Rattle.cli_tables.specs.Tables.{blank_tables, AreIn}
use Rattle.cli_tables.specs.TableRules.{HeaderBroken}
use Rattle.cli_tables.specs.Written.{stream_in, AreOfOne, IsOverfull}
use Rattle.pe_image.specs.Cli.{metadata_of}
use Rattle.pe_image.specs.SectionGrowth.{too_long}
use Rattle.asm_gen.specs.Layout.{file_size}
use Rattle.asm_gen.specs.Reading.{IsImageOf}
use Rattle.asm_gen.specs.Blank.{blank}

-- rows by table, column and row; what is appended to the blank metadata's heaps; code; the token of the entry point, or 0
pub record Sample : Type 0 where
  pub tables : List (List (List ℕ))
  pub heaps : HeapGrowths
  pub code : List ℕ
  pub entry : ℕ

abbrev pub blank_growths : HeapGrowths
blank_growths =
    record { strings = no_growth (length (root.strings blank)); blobs = no_growth (length (root.blobs blank)); user_strings = no_growth (length (root.user_strings blank)) }

abbrev pub blank_sample : Sample
blank_sample = record { tables = blank_tables; heaps = blank_growths; code = []; entry = 0 }

-- ---- the finished assembly

-- the metadata that are written
abbrev pub metadata_bytes : Sample → List ℕ
metadata_bytes s = written_root blank (parts blank s.heaps (stream_in blank s.heaps s.tables))

-- how many bytes the image has
abbrev pub image_len : Sample → ℕ
image_len s = file_size (length s.code + length (metadata_bytes s))

-- The metadata of these rows and heaps: each entry, each cell and the header, with none of the rules on them broken.
pub record HoldsRows (s : Sample) (meta : List ℕ) : Type 0 where
  pub streams : IsWritten blank s.heaps (stream_in blank s.heaps s.tables) meta
  pub entries : EntriesRead blank s.heaps meta
  pub cells : AreIn (root.tables meta) s.tables
  pub header : AreOfOne s.tables → (assembly : ℕ) → NoneBroken (HeaderBroken meta assembly)

-- The bytes are an image whose rows, heaps, code and entry point are those of the sample.
pub record IsAssembly (s : Sample) (bytes : List ℕ) : Type 0 where
  pub image : IsImageOf s.code (metadata_of bytes) s.entry bytes
  pub rows : HoldsRows s (metadata_of bytes)
  pub metadata : metadata_of bytes ≡ metadata_bytes s

-- a table, a heap or the number of streams passes its limit
abbrev pub PassesLimit : Sample → Refusal → Type 0
PassesLimit s r = IsOverfull s.tables r ⊎ Fails (limit_tests blank s.heaps (stream_in blank s.heaps s.tables)) r

-- the image has over 128 MiB
abbrev pub IsTooLong : Sample → Refusal → Type 0
IsTooLong s r = (r ≡ too_long) × (IMAGE_LIMIT < image_len s)

-- none of these limits is passed, and the metadata alone fit into an image
pub record WithinLimits (s : Sample) : Type 0 where
  pub limits : NoneBroken (PassesLimit s)
  pub short : length (metadata_bytes s) ≤ IMAGE_LIMIT
