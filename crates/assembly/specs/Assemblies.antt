-- An assembly that is read: what belongs to its image, and the rules on its bytes (ECMA-335, II.22, II.24 and II.25).
use Rattle.std.specs.Prelude.{◌≡◌, ℕ, ◌<◌, ◌^◌, List, [], ◌∷◌, length, true}
use Rattle.cil_base.specs.declared.refusal.Refusal.{Refusal}
use Rattle.cil_base.specs.Refusals.{First, InLayers, NoneOf}
use Rattle.pe_image.specs.Images.{File}
use Rattle.pe_image.specs.Cli.{metadata_of}
use Rattle.pe_image.specs.Rules as image
use Rattle.cli_heaps.specs.Root.{Metadata}
use Rattle.cli_heaps.specs.Root as root
use Rattle.cli_heaps.specs.RootRules as heaps
use Rattle.heap_writer.specs.Growth.{HeapGrowths}
use Rattle.cli_tables.specs.Layout.{tables_in}
use Rattle.cli_tables.specs.Tables.{AreIn, IsShaped}
use Rattle.cli_tables.specs.TableRules.{HeaderBroken, RowsBroken}
use Rattle.cli_tables.specs.Written.{sizes_to, indexes_fit}

-- ---- the layers of rules on the bytes of one assembly

-- P1 to P4 and P6 on the image; M1 to M3 on the metadata root; M3 on the header of the tables; M4 to M7 on their rows
pub data Layer : Type 0 where
  Image : Layer
  Root : Layer
  TableHeader : Layer
  Rows : Layer

-- in the order in which they are tried
abbrev pub layers : List Layer
layers = Image ∷ Root ∷ TableHeader ∷ Rows ∷ []

-- a rule that the bytes of this assembly of the command break, and where
abbrev pub Breaks : List ℕ → ℕ → Layer → Refusal → Type 0
Breaks bytes assembly Image = image.Broken bytes assembly
Breaks bytes assembly Root = heaps.Broken (metadata_of bytes) assembly
Breaks bytes assembly TableHeader = HeaderBroken (metadata_of bytes) assembly
Breaks bytes assembly Rows = RowsBroken (metadata_of bytes) assembly

-- the first of a layer
abbrev pub Names : List ℕ → ℕ → Layer → Refusal → Type 0
Names bytes assembly layer = First (Breaks bytes assembly layer)

-- the first broken rule of the bytes
abbrev pub IsUnread : List ℕ → ℕ → Refusal → Type 0
IsUnread bytes assembly = InLayers (Breaks bytes assembly) (Names bytes assembly) layers

-- no rule is broken
abbrev pub IsReadable : List ℕ → ℕ → Type 0
IsReadable bytes assembly = NoneOf (Breaks bytes assembly) layers

-- ---- what belongs to an image

-- the metadata of the image of an assembly
abbrev pub metadata_in : File → Metadata
metadata_in file = record { bytes = metadata_of file.bytes; assembly = file.assembly }

-- the tables of an image
abbrev pub tables_of : List ℕ → List (List (List ℕ))
tables_of bytes = tables_in (root.tables (metadata_of bytes))

-- The rows can be written again, whatever is added to the heaps.
abbrev pub AreWritable : List ℕ → List (List (List ℕ)) → Type 0
AreWritable meta tables = (grown : HeapGrowths) → indexes_fit (sizes_to meta grown tables) tables ≡ true

-- Heaps and tables are those of the image, and the assembly breaks no rule.
pub record Belong (file : File) (heaps : Metadata) (tables : List (List (List ℕ))) : Type 0 where
  pub heaps_are : heaps ≡ metadata_in file
  pub tables_are : tables ≡ tables_of file.bytes
  pub cells : AreIn (root.tables (metadata_of file.bytes)) tables
  pub writable : AreWritable (metadata_of file.bytes) tables
  pub readable : IsReadable file.bytes file.assembly
