-- The `#~` stream that tables are written to (ECMA-335, II.24.2.6).
use Rattle.std.specs.Prelude.{◌≡◌, ◌⊎◌, ℕ, zero, suc, ◌+◌, ◌-◌, ◌*◌, ◌/◌, ◌%◌, ◌^◌, ◌<◌, ◌≤◌, count_ones, Bool, true, false, not, ◌||◌, nat_lt, List, [], ◌∷◌, ◌++◌, map, length, take, drop, get_or, if◌then◌else◌}
use Rattle.std.specs.List.{flat_map, list_all, range_with_len}
use Rattle.cil_base.specs.Numbers.{num}
use Rattle.cil_base.specs.declared.refusal.Refusal.{Refusal}
use Rattle.cil_base.specs.Refusals.{Fails}
use Rattle.cli_heaps.specs.Root as root
use Rattle.cli_heaps.specs.Root.{strings, blobs, guids}
use Rattle.heap_writer.specs.Growth.{HeapGrowths}
use Rattle.cil_base.specs.Bytes.{number_bytes, padding, padded}
use Rattle.heap_writer.specs.Written.{IsTooLong, Within, limit_tests}
use Rattle.cli_tables.specs.declared.schema.Column.{Column}
use Rattle.cli_tables.specs.declared.schema.Column.TheVariants.{U8, U16, U32}
use Rattle.cli_tables.specs.declared.sizes.Sizes.{Sizes}
use Rattle.cli_tables.specs.Schema.{columns_of}
use Rattle.cli_tables.specs.Stream.{count_of, width_of, kind_of, sizes_of, rows_start, bytes_below}
use Rattle.cli_tables.specs.Layout.{row_end}
use Rattle.cli_tables.specs.TableRules.{has_other_heaps, has_unread}
use Rattle.cli_tables.specs.Tables.{column_of, rows_of, rows_in, AreIn}
use Rattle.cli_tables.specs.Growth.{table_full}

-- the pieces of the numbers from 0 on, so many of them, one behind the other
unfoldable pub pieces : (ℕ → List ℕ) → ℕ → List ℕ
pieces piece n = flat_map piece (range_with_len 0 n)

-- how many rows each table has
unfoldable pub counts_to : List (List (List ℕ)) → List ℕ
counts_to tables = map (rows_of tables) (range_with_len 0 64)

-- ---- the header, which tells the sizes

abbrev pub has_rows : Sizes → ℕ → Bool
has_rows sizes table = nat_lt 0 (count_of sizes table)

-- the bits of the numbers that pass a test
unfoldable pub bits_of : (ℕ → Bool) → ℕ → ℕ
bits_of test zero = 0
bits_of test (suc n) = bits_of test n + (if test n then 2 ^ n else 0)

-- HeapSizes: the heaps that are large
abbrev pub heap_bits : Sizes → ℕ
heap_bits sizes = (if sizes.wide_strings then 1 else 0) + (if sizes.wide_guids then 2 else 0) + (if sizes.wide_blobs then 4 else 0)

-- the reserved bytes, the versions and Sorted are those of an old stream
unfoldable pub header_bytes : List ℕ → Sizes → List ℕ
header_bytes old sizes =
    take 6 old ++ heap_bits sizes ∷ get_or old 7 0 ∷ (number_bytes 8 (bits_of (has_rows sizes) 64) ++ take 8 (drop 16 old))

abbrev pub count_bytes : Sizes → ℕ → List ℕ
count_bytes sizes table = if has_rows sizes table then number_bytes 4 (count_of sizes table) else []

-- ---- rows: they count from 0 here

abbrev pub cell_bytes : Sizes → ℕ → List (List ℕ) → ℕ → ℕ → List ℕ
cell_bytes sizes table columns row column = number_bytes (width_of sizes (kind_of table column)) (get_or (get_or columns column []) row 0)

abbrev pub row_bytes : Sizes → ℕ → List (List ℕ) → ℕ → List ℕ
row_bytes sizes table columns row = pieces (cell_bytes sizes table columns row) (length (columns_of table))

abbrev pub table_bytes : Sizes → List (List (List ℕ)) → ℕ → List ℕ
table_bytes sizes tables table = pieces (row_bytes sizes table (get_or tables table [])) (count_of sizes table)

-- ---- the stream

unfoldable pub stream_to : List ℕ → Sizes → List (List (List ℕ)) → List ℕ
stream_to old sizes tables = padded 4 (header_bytes old sizes ++ pieces (count_bytes sizes) 64 ++ pieces (table_bytes sizes tables) 45)

-- how many bytes that are
abbrev pub unpadded_size : Sizes → ℕ
unpadded_size sizes = 24 + 4 * count_ones (bits_of (has_rows sizes) 64) + bytes_below sizes 45

abbrev pub size_to : Sizes → ℕ
size_to sizes = unpadded_size sizes + padding 4 (unpadded_size sizes)

-- the sizes tell the rows of the tables, and each number fits its column
pub record Fit (sizes : Sizes) (tables : List (List (List ℕ))) : Type 0 where
  pub counts : sizes.counts ≡ counts_to tables
  pub cells : (table column k : ℕ) → get_or (column_of tables table column) k 0 < 256 ^ width_of sizes (kind_of table column)

-- The stream holds the tables, in columns of these widths.
pub record Holds (old : List ℕ) (sizes : Sizes) (tables : List (List (List ℕ))) (stream : List ℕ) : Type 0 where
  pub header : rows_start stream ≤ length stream
  pub bits : rows_start stream ≡ 24 + 4 * count_ones (num stream 8 8)
  pub rows_whole : (table : ℕ) → 0 < length (columns_of table) → row_end stream table (rows_in stream table) ≤ length stream
  pub full : length stream % 4 ≡ 0
  pub sizes_are : sizes_of stream ≡ sizes
  pub cells : AreIn stream tables
  pub versions : take 6 stream ≡ take 6 old
  pub reserved : get_or stream 7 0 ≡ get_or old 7 0
  pub sorted : take 8 (drop 16 stream) ≡ take 8 (drop 16 old)
  pub heaps : has_other_heaps stream ≡ false
  pub all_read : has_unread stream ≡ false

-- ---- the whole metadata

-- whether two bytes can't tell so many places
abbrev pub is_many : ℕ → Bool
is_many n = nat_lt (2 ^ 16 - 1) n

-- the sizes that the written header tells: `#GUID` counts by entries, the other heaps by their bytes
abbrev pub sizes_to : List ℕ → HeapGrowths → List (List (List ℕ)) → Sizes
sizes_to meta grown tables = record {
  counts = counts_to tables;
  wide_strings = is_many (length (padded 4 (strings meta ++ grown.strings.added)));
  wide_guids = is_many (length (guids meta) / 16);
  wide_blobs = is_many (length (padded 4 (blobs meta ++ grown.blobs.added)));
}

-- the stream in the written metadata
abbrev pub stream_in : List ℕ → HeapGrowths → List (List (List ℕ)) → List ℕ
stream_in meta grown tables = stream_to (root.tables meta) (sizes_to meta grown tables) tables

abbrev pub is_index : Column → Bool
is_index U8 = false
is_index U16 = false
is_index U32 = false
is_index _ = true

abbrev pub column_fits : Sizes → List (List (List ℕ)) → ℕ → ℕ → Bool
column_fits sizes tables table column = not (is_index (kind_of table column)) || list_all (λ value. nat_lt value (256 ^ width_of sizes (kind_of table column))) (column_of tables table column)

abbrev pub table_fits : Sizes → List (List (List ℕ)) → ℕ → Bool
table_fits sizes tables table = list_all (column_fits sizes tables table) (range_with_len 0 (length (columns_of table)))

-- each index fits the width that its column has
unfoldable pub indexes_fit : Sizes → List (List (List ℕ)) → Bool
indexes_fit sizes tables = list_all (table_fits sizes tables) (range_with_len 0 45)

-- ---- what keeps that so

-- a cell of a row to be appended fits, if it is an index
abbrev pub cell_fits : Sizes → ℕ → List ℕ → ℕ → Bool
cell_fits sizes table row column = not (is_index (kind_of table column)) || nat_lt (get_or row column 0) (256 ^ width_of sizes (kind_of table column))

abbrev pub row_fits : Sizes → ℕ → List ℕ → Bool
row_fits sizes table row = list_all (cell_fits sizes table row) (range_with_len 0 (length (columns_of table)))

-- no table has fewer rows, and a heap that was large is large still
pub record Grows (old new : Sizes) : Type 0 where
  pub counts : (table : ℕ) → count_of old table ≤ count_of new table
  pub strings : old.wide_strings ≡ true → new.wide_strings ≡ true
  pub guids : old.wide_guids ≡ true → new.wide_guids ≡ true
  pub blobs : old.wide_blobs ≡ true → new.wide_blobs ≡ true

-- no table has more rows than a written one may have
abbrev pub NoneFull : List (List (List ℕ)) → Type 0
NoneFull tables = (table : ℕ) → rows_of tables table ≤ 2 ^ 24 - 1

-- the refusal names a table that has
abbrev pub IsOverfull : List (List (List ℕ)) → Refusal → Type 0
IsOverfull tables r = (r ≡ table_full r.table) × (2 ^ 24 - 1 < rows_of tables r.table)

-- what is refused: a table that is too long, or metadata that pass a limit
abbrev pub IsRefused : List ℕ → HeapGrowths → List (List (List ℕ)) → Refusal → Type 0
IsRefused meta grown tables r = IsOverfull tables r ⊎ (Fails (limit_tests meta grown (stream_in meta grown tables)) r ⊎ IsTooLong meta grown (stream_in meta grown tables) r)

-- no limit is passed
abbrev pub FitsLimits : List ℕ → HeapGrowths → List (List (List ℕ)) → Type 0
FitsLimits meta grown tables = NoneFull tables × Within meta grown (stream_in meta grown tables)

-- Module and Assembly have one row each
abbrev pub AreOfOne : List (List (List ℕ)) → Type 0
AreOfOne tables = (rows_of tables 0x00 ≡ 1) × (rows_of tables 0x20 ≡ 1)
