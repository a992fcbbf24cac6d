-- The rules on the tables of a `#~` stream, each with its place: a table, a row and a column (ECMA-335, II.22 and II.24.2.6).
use Rattle.std.specs.Prelude.{◌≡◌, ◌⊎◌, ℕ, ◌+◌, ◌-◌, ◌/◌, ◌%◌, ◌^◌, ◌<◌, ◌≤◌, Bool, true, false, not, ◌==◌, ◌||◌, ◌&&◌, nat_lt, List, [], ◌∷◌, length, Option, Some, None, is_some}
use Rattle.std.specs.List.{list_any, range_with_len}
use Rattle.cil_base.specs.Numbers.{num}
use Rattle.cil_base.specs.declared.rule.Rule.{Rule}
use Rattle.cil_base.specs.declared.rule.Rule.TheVariants.{M3, M4, M5, M6, M7}
use Rattle.cil_base.specs.declared.refusal.Refusal.{Refusal}
use Rattle.cil_base.specs.Refusals.{Test, Fails}
use Rattle.cli_heaps.specs.Root.{strings, guids, blobs, tables, tables_offset}
use Rattle.cli_heaps.specs.Entries.{string_at, blob_at, is_guid_index}
use Rattle.cli_tables.specs.declared.schema.Column.{Column}
use Rattle.cli_tables.specs.declared.schema.Column.TheVariants.{StringIndex, GuidIndex, BlobIndex, Row, FirstRow, Coded}
use Rattle.cli_tables.specs.declared.sizes.Sizes.{Sizes}
use Rattle.cli_tables.specs.Schema.{columns_of, table_of_tag, tag_bits}
use Rattle.cli_tables.specs.Stream.{has_table, count_of, sizes_of, kind_of, cell}
use Rattle.cli_tables.specs.Layout.{row_end}
use Rattle.cli_tables.specs.Tables.{rows_in}

-- ---- the header: its places are offsets in the metadata

-- a bit of HeapSizes that widens no index
abbrev pub has_other_heaps : List ℕ → Bool
has_other_heaps bytes = not (num bytes 6 1 / 2 ^ 3 == 0)

abbrev pub is_unread : List ℕ → ℕ → Bool
is_unread bytes table = has_table bytes table && (length (columns_of table) == 0)

-- a table that is not read
unfoldable pub has_unread : List ℕ → Bool
has_unread bytes = list_any (is_unread bytes) (range_with_len 0 64)

-- Module and Assembly have one row each
abbrev pub is_one_assembly : List ℕ → Bool
is_one_assembly bytes = (rows_in bytes 0x00 == 1) && (rows_in bytes 0x20 == 1)

abbrev pub header_test : ℕ → ℕ → Bool → Test
header_test assembly at fails = record { refusal = record { rule = M3; assembly = assembly; table = 0; row = 0; at = at }; fails = fails }

-- HeapSizes stands at 6, Valid at 8
abbrev pub header_tests : List ℕ → ℕ → ℕ → List Test
header_tests bytes offset assembly =
    header_test assembly (offset + 6) (has_other_heaps bytes) ∷
    header_test assembly (offset + 8) (has_unread bytes || not (is_one_assembly bytes)) ∷ []

-- ---- rows

abbrev pub is_past : Sizes → Option ℕ → ℕ → Bool
is_past sizes None row = true
is_past sizes (Some table) row = nat_lt (count_of sizes table) row

-- whether a number is no index of its column: past its table, with an unused tag, or without a whole entry in its heap
abbrev pub names_nothing : List ℕ → Sizes → Column → ℕ → Bool
names_nothing meta sizes StringIndex value = not (is_some (string_at (strings meta) value))
names_nothing meta sizes GuidIndex value = not (is_guid_index (guids meta) value)
names_nothing meta sizes BlobIndex value = not (is_some (blob_at (blobs meta) value))
names_nothing meta sizes (Row table) value = nat_lt (count_of sizes table) value
names_nothing meta sizes (FirstRow table) value = nat_lt (count_of sizes table + 1) value
names_nothing meta sizes (Coded coded) value = is_past sizes (table_of_tag coded (value % 2 ^ tag_bits coded)) (value / 2 ^ tag_bits coded)
names_nothing meta sizes _ value = false

-- the rule on the numbers of a column
abbrev pub naming_rule : Column → Rule
naming_rule StringIndex = M7
naming_rule GuidIndex = M7
naming_rule BlobIndex = M7
naming_rule _ = M5

abbrev pub is_list : Column → Bool
is_list (FirstRow table) = true
is_list _ = false

-- the refusal's place is a cell
abbrev pub IsAtCell : List ℕ → Refusal → Type 0
IsAtCell bytes r = (1 ≤ r.row) × (r.row ≤ rows_in bytes r.table) × (r.at < length (columns_of r.table))

-- The row passes the stream.
abbrev pub IsCut : List ℕ → Refusal → Type 0
IsCut bytes r = (r.rule ≡ M4) × (r.at ≡ 0) × (length bytes < row_end bytes r.table r.row)

-- The cell is an index that names nothing.
abbrev pub NamesNothing : List ℕ → List ℕ → Refusal → Type 0
NamesNothing meta bytes r = (r.rule ≡ naming_rule (kind_of r.table r.at)) × (names_nothing meta (sizes_of bytes) (kind_of r.table r.at) (cell bytes r.table r.row r.at) ≡ true)

-- The list that the row begins comes before that of the row before.
abbrev pub Falls : List ℕ → Refusal → Type 0
Falls bytes r = (r.rule ≡ M6) × (is_list (kind_of r.table r.at) ≡ true) × (1 < r.row) × (cell bytes r.table r.row r.at < cell bytes r.table (r.row - 1) r.at)

-- a rule that a row of the stream in this metadata breaks, and where
pub record Broken (meta bytes : List ℕ) (assembly : ℕ) (r : Refusal) : Type 0 where
  pub assembly_is : r.assembly ≡ assembly
  pub place : IsAtCell bytes r
  pub breaks : IsCut bytes r ⊎ (NamesNothing meta bytes r ⊎ Falls bytes r)

-- the same in one table
pub record BrokenIn (meta bytes : List ℕ) (assembly table : ℕ) (r : Refusal) : Type 0 where
  pub table_is : r.table ≡ table
  pub broken : Broken meta bytes assembly r

-- ---- both layers of an assembly's metadata; the header comes first

-- a rule that the header breaks, and where
unfoldable pub HeaderBroken : List ℕ → ℕ → Refusal → Type 0
HeaderBroken meta assembly r = Fails (header_tests (tables meta) (tables_offset meta) assembly) r

abbrev pub RowsBroken : List ℕ → ℕ → Refusal → Type 0
RowsBroken meta assembly r = Broken meta (tables meta) assembly r
