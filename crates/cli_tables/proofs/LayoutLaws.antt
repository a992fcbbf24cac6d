-- Where columns stand in their rows, and rows in their table.
use Rattle.std.proofs.Common.{◌≡◌, ℕ, zero, suc, ◌+◌, ◌*◌, ◌<◌, ◌≤◌, Bool, true, List, [], ◌∷◌, length, get_or, map, ◌++◌, leb, refl, sym, ap, subst, ◌∙◌, arith}
use Rattle.std.specs.List.{list_all, range_with_len}
use Rattle.std.proofs.lemmas.List.{get_or_default}
use Rattle.std.proofs.lemmas.List.Sums.{fold_more, sum_by_more_le}
use Rattle.std.proofs.lemmas.List.FromFn.{map-range_with_len_more}
use Rattle.std.proofs.lemmas.Bool.{leb-true, and_parts}
use Rattle.std.proofs.Math.Nat.{mul-le-mul_right}
use Rattle.cil_base.specs.Numbers.{num}
use Rattle.cli_tables.specs.declared.schema.Column.{Column}
use Rattle.cli_tables.specs.declared.schema.Column.TheVariants.{U8}
use Rattle.cli_tables.specs.declared.sizes.Sizes.{Sizes}
use Rattle.cli_tables.specs.Schema.{the_tables, columns_of}
use Rattle.cli_tables.specs.Stream.{width_of, row_width, offset_of, kind_of, strided}
use Rattle.cli_tables.specs.Layout.{column_in}

-- a test of each table holds of each, and of no columns
tested_at : (p : List Column → Bool) (tables : List (List Column)) (table : ℕ) → list_all p tables ≡ true → p [] ≡ true → p (get_or tables table []) ≡ true
tested_at p [] table all none = none
tested_at p (t ∷ ts) zero all none = (and_parts (p t) (list_all p ts) all).0
tested_at p (t ∷ ts) (suc table) all none = tested_at p ts table (and_parts (p t) (list_all p ts) all).1 none

pub few_columns : (table : ℕ) → length (columns_of table) ≤ 16
unfolding the_tables
few_columns table = leb-true (length (columns_of table)) 16 (tested_at (λ ks. leb (length ks) 16) the_tables table refl refl)

pub offset_more : (s : Sizes) (table column : ℕ) → column < length (columns_of table) → offset_of s table (column + 1) ≡ offset_of s table column + width_of s (kind_of table column)
offset_more s table column lt = fold_more (λ (a : ℕ) (k : Column). a + width_of s k) 0 (columns_of table) column U8 lt

pub offset_within : (s : Sizes) (table column : ℕ) → column < length (columns_of table) → offset_of s table column + width_of s (kind_of table column) ≤ row_width s table
offset_within s table column lt = sum_by_more_le (width_of s) (columns_of table) column U8 lt

-- a cell of a row that lies before the end
pub cell_within : (s : Sizes) (table column start rows k end : ℕ) → column < length (columns_of table) → start + rows * row_width s table ≤ end → k < rows → (start + offset_of s table column) + k * row_width s table + width_of s (kind_of table column) ≤ end
cell_within s table column start rows k end lt within below =
    let a = offset_within s table column lt in
    let w : ℕ = row_width s table in
    let b : (k + 1) * w ≤ rows * w = mul-le-mul_right w (omega arith) in
    omega arith

pub strided_more : (bytes : List ℕ) (start stride width n : ℕ) → strided bytes start stride width (n + 1) ≡ strided bytes start stride width n ++ num bytes (start + n * stride) width ∷ []
strided_more bytes start stride width n = map-range_with_len_more (λ (k : ℕ). num bytes (start + k * stride) width) 0 n n (omega arith)

pub table_more : (bytes : List ℕ) (s : Sizes) (start table rows n : ℕ) → map (column_in bytes s start table rows) (range_with_len 0 (n + 1)) ≡ map (column_in bytes s start table rows) (range_with_len 0 n) ++ column_in bytes s start table rows n ∷ []
table_more bytes s start table rows n = map-range_with_len_more (column_in bytes s start table rows) 0 n n (omega arith)

pub small_row : (s : Sizes) (total n table : ℕ) → total ≤ 4 * n → n ≤ length (columns_of table) → total ≤ 64
small_row s total n table h le = omega (arith, few_columns table)

-- the column that a loop over a table's columns comes to
pub kind_read : (table : ℕ) (columns : List Column) (i : ℕ) (d : Column) → columns ≡ columns_of table → i < length columns → get_or columns i d ≡ kind_of table i
kind_read table columns i d same lt = get_or_default columns i d U8 lt ∙ ap (λ (ks : List Column). get_or ks i U8) same

pub width_read : (s : Sizes) (table : ℕ) (columns : List Column) (i width : ℕ) (d : Column) → columns ≡ columns_of table → i < length columns → width ≡ width_of s (get_or columns i d) → width ≡ width_of s (kind_of table i)
width_read s table columns i width d same lt e = e ∙ ap (width_of s) (kind_read table columns i d same lt)

pub in_columns : (table : ℕ) (columns : List Column) (i : ℕ) → columns ≡ columns_of table → i < length columns → i < length (columns_of table)
in_columns table columns i same lt = subst (λ (ks : List Column). i < length ks) same lt

pub strided_push : (bytes : List ℕ) (start stride width n : ℕ) (cells : List ℕ) (v : ℕ) → cells ≡ strided bytes start stride width n → v ≡ num bytes (start + n * stride) width → cells ++ v ∷ [] ≡ strided bytes start stride width (n + 1)
strided_push bytes start stride width n cells v e f =
    ap (λ (l : List ℕ). l ++ v ∷ []) e ∙ ap (λ (x : ℕ). strided bytes start stride width n ++ x ∷ []) f ∙ sym (strided_more bytes start stride width n)

-- a column that was read where it stands
pub column_push : (bytes : List ℕ) (s : Sizes) (start table rows n at stride width : ℕ) (columns : List (List ℕ)) (read : List ℕ)
    → columns ≡ map (column_in bytes s start table rows) (range_with_len 0 n) → read ≡ strided bytes at stride width rows
    → at ≡ start + offset_of s table n → stride ≡ row_width s table → width ≡ width_of s (kind_of table n)
    → columns ++ read ∷ [] ≡ map (column_in bytes s start table rows) (range_with_len 0 (n + 1))
column_push bytes s start table rows n at stride width columns read e r place same wide =
    let here : read ≡ column_in bytes s start table rows n =
    r ∙ ap (λ (k : ℕ). strided bytes k stride width rows) place ∙ ap (λ (k : ℕ). strided bytes (start + offset_of s table n) k width rows) same
    ∙ ap (λ (k : ℕ). strided bytes (start + offset_of s table n) (row_width s table) k rows) wide in
    ap (λ (l : List (List ℕ)). l ++ read ∷ []) e ∙ ap (λ (x : List ℕ). map (column_in bytes s start table rows) (range_with_len 0 n) ++ x ∷ []) here
    ∙ sym (table_more bytes s start table rows n)
