-- What `rewrite` makes of one assembly without contracts: the same rows in a grown image, with its metadata in a section of their own.
use Rattle.std.specs.Prelude.{◌≡◌, ◌⊎◌, ◌<◌, ◌≤◌, ◌^◌, ℕ, List, [], ◌∷◌, length, codes, Some, Ok, Err, IsOk}
use Rattle.cil_base.specs.declared.rule.Rule.TheVariants.{Z1, L5, L6}
use Rattle.cil_base.specs.declared.refusal.Refusal.{Refusal}
use Rattle.cil_base.specs.Refusals.{First, NoneBroken, Fails, InLayers, NoneOf, limit_refusal}
use Rattle.pe_image.specs.Headers.{headers_of}
use Rattle.pe_image.specs.Cli.{metadata_of}
use Rattle.pe_image.specs.SectionGrowth.{growth_in, room_of}
use Rattle.pe_image.specs.Written.{grown_of, KeepsBytes}
use Rattle.pe_image.specs.ReadBack.{new_rva, Grows}
use Rattle.assembly.specs.Assemblies.{tables_of}
use Rattle.cli_heaps.specs.Root as root
use Rattle.cli_heaps.specs.Entries.{string_at}
use Rattle.heap_writer.specs.Growth.{HeapGrowths, no_growth}
use Rattle.heap_writer.specs.Written.{parts, written_root, limit_tests, IsWritten}
use Rattle.cli_tables.specs.Tables.{cell_at, AreIn}
use Rattle.cli_tables.specs.TableRules.{HeaderBroken}
use Rattle.cli_tables.specs.Written.{stream_in, IsOverfull}

-- ---- what is written

-- nothing is appended to the heaps
abbrev pub no_growths : List ℕ → HeapGrowths
no_growths meta = record { strings = no_growth (length (root.strings meta)); blobs = no_growth (length (root.blobs meta)); user_strings = no_growth (length (root.user_strings meta)) }

-- the stream `#~` of tables
abbrev pub stream_of : List ℕ → List (List (List ℕ)) → List ℕ
stream_of meta tables = stream_in meta (no_growths meta) tables

-- the metadata of the same streams and heaps with these tables
abbrev pub metadata_with : List ℕ → List (List (List ℕ)) → List ℕ
metadata_with meta tables = written_root meta (parts meta (no_growths meta) (stream_of meta tables))

-- the metadata of the same streams and tables, written anew
unfoldable pub new_metadata : List ℕ → List ℕ
new_metadata bytes = metadata_with (metadata_of bytes) (tables_of bytes)

-- Each old row has its number and columns, and none is appended; the heaps, the version text and the other streams have the
-- bytes that they had; the image has grown by one section that holds the metadata, byte for byte, and nothing else.
pub record KeepsRows (old : List ℕ) (assembly : ℕ) (new : List ℕ) : Type 0 where
  pub exact : metadata_of new ≡ new_metadata old
  pub grows : Grows old assembly (metadata_of new) (new_rva old) (length (metadata_of new)) new
  pub streams : IsWritten (metadata_of old) (no_growths (metadata_of old)) (root.tables (metadata_of new)) (metadata_of new)
  pub rows : AreIn (root.tables (metadata_of new)) (tables_of old)
  pub header : NoneBroken (HeaderBroken (metadata_of new) assembly)
  pub image_is : grown_of old assembly (metadata_of new) (new_rva old) (length (metadata_of new)) ≡ Ok new
  pub bytes_stay : KeepsBytes old new

-- ---- what is refused

-- the namespace of Code Contracts
abbrev pub contracts_namespace : List ℕ
contracts_namespace = codes "System.Diagnostics.Contracts"

-- The third column of TypeRef and of TypeDef is the namespace.
abbrev pub IsContractRow : List ℕ → ℕ → ℕ → Type 0
IsContractRow meta table row =
    (place : ℕ) × (cell_at (root.tables meta) table row 2 ≡ Some place) × (string_at (root.strings meta) place ≡ Some contracts_namespace)

-- the first of them in a table
pub record IsFirstRow (meta : List ℕ) (table row : ℕ) : Type 0 where
  pub there : IsContractRow meta table row
  pub none_before : (before : ℕ) → before < row → IsContractRow meta table before → ⊥

-- A TypeRef or TypeDef row of that namespace: the assembly has contracts, which aren't rewritten yet.
pub record IsContract (meta : List ℕ) (assembly : ℕ) (r : Refusal) : Type 0 where
  pub rule : r.rule ≡ Z1
  pub assembly_is : r.assembly ≡ assembly
  pub table : (r.table ≡ 1) ⊎ (r.table ≡ 2)
  pub row : IsContractRow meta r.table r.row
  pub at : r.at ≡ 0

abbrev pub contract_row : ℕ → ℕ → ℕ → Refusal
contract_row assembly table row = record { rule = Z1; assembly = assembly; table = table; row = row; at = 0 }

-- a limit of what is written
abbrev pub IsLimit : List ℕ → List (List (List ℕ)) → Refusal → Type 0
IsLimit meta tables r = IsOverfull tables r ⊎ Fails (limit_tests meta (no_growths meta) (stream_of meta tables)) r

abbrev pub PassesLimit : List ℕ → Refusal → Type 0
PassesLimit bytes r = IsLimit (metadata_of bytes) (tables_of bytes) r

-- the metadata alone are longer than an image may be, and no limit is passed
pub record AreTooLong (meta : List ℕ) (tables : List (List (List ℕ))) (r : Refusal) : Type 0 where
  pub within : NoneBroken (IsLimit meta tables)
  pub long : 2 ^ 27 < length (metadata_with meta tables)
  pub refusal_is : r ≡ limit_refusal L6 (2 ^ 27)

-- no limit is passed, and the metadata alone are no longer than an image may be
abbrev pub AreShort : List ℕ → List (List (List ℕ)) → Type 0
AreShort meta tables = NoneBroken (IsLimit meta tables) × (length (metadata_with meta tables) ≤ 2 ^ 27)

-- there is no room for a section more, or the image would be too long
abbrev pub HasNoRoom : List ℕ → ℕ → Refusal → Type 0
HasNoRoom bytes assembly r = growth_in bytes assembly (headers_of bytes) (length (new_metadata bytes)) ≡ Err r

-- ---- the layers of rules

-- Z1 on what isn't rewritten yet; L5 on what is written; P5 and L6 on the image that grows
pub data Layer : Type 0 where
  Contracts : Layer
  Limits : Layer
  Room : Layer

-- in the order in which they are tried
abbrev pub layers : List Layer
layers = Contracts ∷ Limits ∷ Room ∷ []

-- a rule that this assembly of the command breaks, and where
abbrev pub Breaks : List ℕ → ℕ → Layer → Refusal → Type 0
Breaks bytes assembly Contracts = IsContract (metadata_of bytes) assembly
Breaks bytes assembly Limits = PassesLimit bytes
Breaks bytes assembly Room = HasNoRoom bytes assembly

-- the first of a layer; of the limits of what is written any one that is passed
abbrev pub Names : List ℕ → ℕ → Layer → Refusal → Type 0
Names bytes assembly Contracts = First (IsContract (metadata_of bytes) assembly)
Names bytes assembly Limits = PassesLimit bytes
Names bytes assembly Room = HasNoRoom bytes assembly

-- which two of a layer may both be named: limits of what is written
abbrev pub MayBoth : List ℕ → Layer → Refusal → Refusal → Type 0
MayBoth bytes Limits r s = (r.rule ≡ L5) × (s.rule ≡ L5) × PassesLimit bytes r × PassesLimit bytes s
MayBoth bytes layer r s = ⊥

-- what is refused of an assembly that is read
abbrev pub IsRewriteRefusal : List ℕ → ℕ → Refusal → Type 0
IsRewriteRefusal bytes assembly = InLayers (Breaks bytes assembly) (Names bytes assembly) layers

abbrev pub KeepsRewriteRules : List ℕ → ℕ → Type 0
KeepsRewriteRules bytes assembly = NoneOf (Breaks bytes assembly) layers

-- ---- want of memory

-- What is tested before memory is taken: the assembly has no contracts, no limit of what is written is passed, the metadata alone
-- are short enough for an image, and the image has room for a section more.
pub record MayWantMemory (bytes : List ℕ) (assembly : ℕ) : Type 0 where
  pub contracts : NoneBroken (IsContract (metadata_of bytes) assembly)
  pub short : AreShort (metadata_of bytes) (tables_of bytes)
  pub room : IsOk (room_of bytes assembly)
