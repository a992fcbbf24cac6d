-- The `#~` stream (ECMA-335, II.24.2.6): its header, the widths of columns, and where a cell stands.
use Rattle.std.specs.Prelude.{ℕ, zero, suc, ◌+◌, ◌-◌, ◌*◌, ◌/◌, ◌%◌, ◌^◌, Bool, true, not, ◌==◌, ◌||◌, nat_lt, List, map, sum_by, take, get_or, slice_index, Option, Some, None, if◌then◌else◌}
use Rattle.std.specs.List.{list_all, range_with_len}
use Rattle.cil_base.specs.Numbers.{num}
use Rattle.cli_tables.specs.declared.schema.Column.{Column}
use Rattle.cli_tables.specs.declared.schema.Column.TheVariants.{U8, U16, U32, StringIndex, GuidIndex, BlobIndex, Row, FirstRow, Coded}
use Rattle.cli_tables.specs.declared.sizes.Sizes.{Sizes}
use Rattle.cli_tables.specs.Schema.{columns_of, coded_tables, tag_bits}

-- ---- the header: HeapSizes at 6, Valid at 8, and from 24 on a count for each bit of Valid that is set

abbrev pub has_bit : ℕ → ℕ → Bool
has_bit number bit = (number / 2 ^ bit) % 2 == 1

abbrev pub has_table : List ℕ → ℕ → Bool
has_table bytes table = has_bit (num bytes 8 8) table

-- how many tables with a lower number there are
unfoldable pub tables_below : List ℕ → ℕ → ℕ
tables_below bytes zero = 0
tables_below bytes (suc table) = tables_below bytes table + (if has_table bytes table then 1 else 0)

abbrev pub row_count : List ℕ → ℕ → ℕ
row_count bytes table = if has_table bytes table then num bytes (24 + 4 * tables_below bytes table) 4 else 0

-- where the rows begin
abbrev pub rows_start : List ℕ → ℕ
rows_start bytes = 24 + 4 * tables_below bytes 64

unfoldable pub counts_in : List ℕ → List ℕ
counts_in bytes = map (row_count bytes) (range_with_len 0 64)

abbrev pub sizes_of : List ℕ → Sizes
sizes_of bytes = record { counts = counts_in bytes; wide_strings = has_bit (num bytes 6 1) 0; wide_guids = has_bit (num bytes 6 1) 1; wide_blobs = has_bit (num bytes 6 1) 2 }

-- ---- widths

abbrev pub count_of : Sizes → ℕ → ℕ
count_of sizes table = slice_index sizes.counts table

abbrev pub index_width : Bool → ℕ
index_width is_short = if is_short then 2 else 4

-- whether a table has so few rows that two bytes tell them, where some bits go to a tag
abbrev pub has_few : Sizes → ℕ → Option ℕ → Bool
has_few sizes bits None = true
has_few sizes bits (Some table) = nat_lt (count_of sizes table) (2 ^ (16 - bits))

abbrev pub width_of : Sizes → Column → ℕ
width_of sizes U8 = 1
width_of sizes U16 = 2
width_of sizes U32 = 4
width_of sizes StringIndex = index_width (not sizes.wide_strings)
width_of sizes GuidIndex = index_width (not sizes.wide_guids)
width_of sizes BlobIndex = index_width (not sizes.wide_blobs)
width_of sizes (Row table) = index_width (has_few sizes 0 (Some table))
width_of sizes (FirstRow table) = index_width (has_few sizes 0 (Some table))
width_of sizes (Coded coded) = index_width (list_all (has_few sizes (tag_bits coded)) (coded_tables coded))

abbrev pub row_width : Sizes → ℕ → ℕ
row_width sizes table = sum_by (width_of sizes) (columns_of table)

-- where a column stands in its row
abbrev pub offset_of : Sizes → ℕ → ℕ → ℕ
offset_of sizes table column = sum_by (width_of sizes) (take column (columns_of table))

-- the bytes of all rows of the tables with a lower number
unfoldable pub bytes_below : Sizes → ℕ → ℕ
bytes_below sizes zero = 0
bytes_below sizes (suc table) = bytes_below sizes table + count_of sizes table * row_width sizes table

-- ---- cells: rows count from 1, columns from 0

abbrev pub kind_of : ℕ → ℕ → Column
kind_of table column = get_or (columns_of table) column U8

abbrev pub cell_in : List ℕ → Sizes → ℕ → ℕ → ℕ → ℕ → ℕ
cell_in bytes sizes start table row column =
    num bytes (start + bytes_below sizes table + (row - 1) * row_width sizes table + offset_of sizes table column) (width_of sizes (kind_of table column))

-- the number that a cell holds
abbrev pub cell : List ℕ → ℕ → ℕ → ℕ → ℕ
cell bytes table row column = cell_in bytes (sizes_of bytes) (rows_start bytes) table row column

-- the numbers of some bytes that stand a stride apart, so many of them
abbrev pub strided : List ℕ → ℕ → ℕ → ℕ → ℕ → List ℕ
strided bytes start stride width count = map (λ k. num bytes (start + k * stride) width) (range_with_len 0 count)

abbrev pub is_width : ℕ → Bool
is_width width = (width == 1) || ((width == 2) || (width == 4))
