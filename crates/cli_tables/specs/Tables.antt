-- Tables as contracts see them (ECMA-335, II.22): by rising number, each as its columns, each as the cells of its rows in order.
use Rattle.std.specs.Prelude.{replicate, ◌≡◌, ℕ, ◌+◌, ◌-◌, ◌^◌, ◌<◌, ◌≤◌, Bool, true, false, ◌&&◌, ◌==◌, nat_lt, nat_le, List, [], ◌∷◌, map, length, get_or, slice_get, Option, Some, None, if◌then◌else◌}
use Rattle.std.specs.List.{range_with_len}
use Rattle.lane_cols.specs.Places.{places}
use Rattle.cli_tables.specs.declared.schema.Column.{Column}
use Rattle.cli_tables.specs.declared.schema.Column.TheVariants.{U8, U16}
use Rattle.cli_tables.specs.Schema.{columns_of}
use Rattle.cli_tables.specs.Stream.{sizes_of, count_of, kind_of, cell}

-- the cells of a column; none where there is no such column
abbrev pub column_of : List (List (List ℕ)) → ℕ → ℕ → List ℕ
column_of tables table column = get_or (get_or tables table []) column []

-- how many rows a table has
abbrev pub rows_of : List (List (List ℕ)) → ℕ → ℕ
rows_of tables table = length (column_of tables table 0)

-- rows count from 1, columns from 0
abbrev pub cell_of : List (List (List ℕ)) → ℕ → ℕ → ℕ → Option ℕ
cell_of tables table row column = if row == 0 then None else slice_get (column_of tables table column) (row - 1)

-- there is such a cell
abbrev pub HasCell : List (List (List ℕ)) → ℕ → ℕ → ℕ → Type 0
HasCell tables table row column = (1 ≤ row) × (row ≤ rows_of tables table) × (column < length (columns_of table))

-- the numbers of a column are below this one
abbrev pub limit_of : Column → ℕ
limit_of U8 = 2 ^ 8
limit_of U16 = 2 ^ 16
limit_of _ = 2 ^ 32

-- each table has its columns, all of them are equally long, and their numbers fit
pub record IsShaped (tables : List (List (List ℕ))) : Type 0 where
  pub columns : (table : ℕ) → length (get_or tables table []) ≡ length (columns_of table)
  pub rows : (table column : ℕ) → column < length (columns_of table) → length (column_of tables table column) ≡ rows_of tables table
  pub few : (table : ℕ) → rows_of tables table < 2 ^ 32
  pub fits : (table column k : ℕ) → get_or (column_of tables table column) k 0 < limit_of (kind_of table column)

-- a table with its columns, without rows
abbrev pub blank_table : ℕ → List (List ℕ)
blank_table table = replicate (length (columns_of table)) []

-- all tables, without rows
unfoldable pub blank_tables : List (List (List ℕ))
blank_tables = map blank_table (range_with_len 0 45)

-- ---- changes

-- a number of a column of one or two bytes is so small
abbrev pub fits_column : Column → ℕ → Bool
fits_column U8 value = nat_lt value (2 ^ 8)
fits_column U16 value = nat_lt value (2 ^ 16)
fits_column _ value = true

-- a number for each column, and each fits
abbrev pub fits_row : List Column → List ℕ → Bool
fits_row [] [] = true
fits_row [] (value ∷ values) = false
fits_row (column ∷ columns) [] = false
fits_row (column ∷ columns) (value ∷ values) = fits_column column value && fits_row columns values

-- The table is read, and the cells are those of a row of it.
pub record IsRow (table : ℕ) (cells : List ℕ) : Type 0 where
  pub is_read : 0 < length (columns_of table)
  pub fits : fits_row (columns_of table) cells ≡ true

-- The table has one row more, with these cells; all else is as before.
pub record IsAppended (old : List (List (List ℕ))) (table : ℕ) (row : List ℕ) (new : List (List (List ℕ))) : Type 0 where
  pub rows : (t : ℕ) → rows_of new t ≡ rows_of old t + (if t == table then 1 else 0)
  pub cells : (t r c : ℕ) → cell_of new t r c ≡ (if (t == table) && (r == rows_of old table + 1) then slice_get row c else cell_of old t r c)

-- The cell holds the number; all else is as before.
pub record IsSet (old : List (List (List ℕ))) (table row column value : ℕ) (new : List (List (List ℕ))) : Type 0 where
  pub rows : (t : ℕ) → rows_of new t ≡ rows_of old t
  pub cells : (t r c : ℕ) → cell_of new t r c ≡ (if (t == table) && ((r == row) && (c == column)) then Some value else cell_of old t r c)

-- the rows that hold a number in a column
abbrev pub rows_with : List (List (List ℕ)) → ℕ → ℕ → ℕ → List ℕ
rows_with tables table column value = map (λ place. place + 1) (places value (column_of tables table column))

-- ---- the tables that a `#~` stream holds

-- how many rows the stream tells of
abbrev pub rows_in : List ℕ → ℕ → ℕ
rows_in bytes table = count_of (sizes_of bytes) table

abbrev pub is_cell_in : List ℕ → ℕ → ℕ → ℕ → Bool
is_cell_in bytes table row column = nat_le 1 row && (nat_le row (rows_in bytes table) && nat_lt column (length (columns_of table)))

-- the number that a cell of the stream holds, where there is such a cell
abbrev pub cell_at : List ℕ → ℕ → ℕ → ℕ → Option ℕ
cell_at bytes table row column = if is_cell_in bytes table row column then Some (cell bytes table row column) else None

-- The tables have the rows and the cells of the stream.
pub record AreIn (bytes : List ℕ) (tables : List (List (List ℕ))) : Type 0 where
  pub rows : (table : ℕ) → rows_of tables table ≡ rows_in bytes table
  pub cells : (table row column : ℕ) → cell_of tables table row column ≡ cell_at bytes table row column
