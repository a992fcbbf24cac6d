-- The columns of a table whose rows stand one after another.
use Rattle.std.specs.Prelude.{ℕ, ◌+◌, ◌*◌, List, map, length}
use Rattle.std.specs.List.{range_with_len}
use Rattle.cli_tables.specs.declared.sizes.Sizes.{Sizes}
use Rattle.cli_tables.specs.Schema.{columns_of}
use Rattle.cli_tables.specs.Stream.{width_of, row_width, offset_of, bytes_below, rows_start, sizes_of, count_of, kind_of, strided}

-- a column of so many rows, the first of which begins at start
abbrev pub column_in : List ℕ → Sizes → ℕ → ℕ → ℕ → ℕ → List ℕ
column_in bytes sizes start table rows column = strided bytes (start + offset_of sizes table column) (row_width sizes table) (width_of sizes (kind_of table column)) rows

abbrev pub table_in : List ℕ → Sizes → ℕ → ℕ → ℕ → List (List ℕ)
table_in bytes sizes start table rows = map (column_in bytes sizes start table rows) (range_with_len 0 (length (columns_of table)))

-- where the rows of a table begin
abbrev pub table_start : List ℕ → ℕ → ℕ
table_start bytes table = rows_start bytes + bytes_below (sizes_of bytes) table

-- where a row ends
abbrev pub row_end : List ℕ → ℕ → ℕ → ℕ
row_end bytes table row = table_start bytes table + row * row_width (sizes_of bytes) table

abbrev pub whole_table : List ℕ → ℕ → List (List ℕ)
whole_table bytes table = table_in bytes (sizes_of bytes) (table_start bytes table) table (count_of (sizes_of bytes) table)

-- all tables of a stream
abbrev pub tables_in : List ℕ → List (List (List ℕ))
tables_in bytes = map (whole_table bytes) (range_with_len 0 45)
