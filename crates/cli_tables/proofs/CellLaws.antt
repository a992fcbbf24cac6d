-- The cells of a table that was read where its rows stand.
use Rattle.std.proofs.Common.{◌≡◌, ℕ, ◌+◌, ◌-◌, ◌*◌, ◌<◌, List, [], length, get_or, ap, ◌∙◌, arith}
use Rattle.std.proofs.lemmas.List.FromFn.{get_or-map-range_with_len, length-map-range_with_len}
use Rattle.cil_base.specs.Numbers.{num}
use Rattle.cli_tables.specs.declared.sizes.Sizes.{Sizes}
use Rattle.cli_tables.specs.Schema.{columns_of}
use Rattle.cli_tables.specs.Stream.{width_of, row_width, offset_of, kind_of, cell, sizes_of, rows_start, bytes_below}
use Rattle.cli_tables.specs.Layout.{column_in, table_in, table_start}

pub column_at : (bytes : List ℕ) (s : Sizes) (start table rows c : ℕ) → c < length (columns_of table) → get_or (table_in bytes s start table rows) c [] ≡ column_in bytes s start table rows c
column_at bytes s start table rows c lt = get_or-map-range_with_len (column_in bytes s start table rows) 0 (length (columns_of table)) c c [] lt (omega arith)

pub length_column : (bytes : List ℕ) (s : Sizes) (start table rows c : ℕ) → c < length (columns_of table) → length (get_or (table_in bytes s start table rows) c []) ≡ rows
length_column bytes s start table rows c lt =
    ap length (column_at bytes s start table rows c lt)
    ∙ length-map-range_with_len (λ (k : ℕ). num bytes ((start + offset_of s table c) + k * row_width s table) (width_of s (kind_of table c))) 0 rows

-- the cell in the column at k is that of row k + 1
pub cell_read : (bytes : List ℕ) (start table rows c k : ℕ) → c < length (columns_of table) → k < rows → start ≡ table_start bytes table
    → get_or (get_or (table_in bytes (sizes_of bytes) start table rows) c []) k 0 ≡ cell bytes table (k + 1) c
cell_read bytes start table rows c k lt below place =
    let s = sizes_of bytes in
    let at : (start + offset_of s table c) + k * row_width s table ≡ rows_start bytes + bytes_below s table + (k + 1 - 1) * row_width s table + offset_of s table c =
    let e : k + 1 - 1 ≡ k = omega arith in rw e (omega arith) in
    ap (λ (l : List ℕ). get_or l k 0) (column_at bytes s start table rows c lt)
    ∙ get_or-map-range_with_len (λ (j : ℕ). num bytes ((start + offset_of s table c) + j * row_width s table) (width_of s (kind_of table c))) 0 rows k k 0 below (omega arith)
    ∙ ap (λ (p : ℕ). num bytes p (width_of s (kind_of table c))) at
