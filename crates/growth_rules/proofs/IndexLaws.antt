-- Where the cells of an assembly that is read lead.
use Rattle.std.proofs.Common.{◌≡◌, ◌∙◌, sym, ap, refl, subst, inl, inr, arith, rules, ℕ, ◌+◌, ◌<◌, ◌≤◌, Bool, true, false, cond, List, length}
use Rattle.std.specs.Prelude.{Option, Some, None, nat_lt, nat_le, ◌&&◌, ◌/◌, ◌%◌, ◌^◌}
use Rattle.cli_heaps.specs.Root as root
use Rattle.cli_tables.specs.declared.schema.Column.{Column}
use Rattle.cli_tables.specs.declared.schema.Column.TheVariants.{U8, U16, U32, StringIndex, GuidIndex, BlobIndex, Row, FirstRow, Coded}
use Rattle.cli_tables.specs.declared.schema.CodedIndex.{CodedIndex}
use Rattle.cli_tables.specs.Schema.{columns_of, table_of_tag, tag_bits}
use Rattle.cli_tables.specs.Stream as stream
use Rattle.cli_tables.specs.Tables.{rows_in, is_cell_in}
use Rattle.cli_tables.specs.TableRules.{names_nothing, naming_rule, is_past}
use Rattle.set_rows.specs.Sets.{Assembly, count_in, cell, is_row, or_zero}
use Rattle.set_growth.proofs.FindLaws.{lt_true, le_true}
use Rattle.growth_rules.specs.Reading.{IsRead, IsWithin, LeadsTo}

not_less : (a b : ℕ) → nat_lt a b ≡ false → b ≤ a
not_less a b e = search (rules, e)

cell_test : (row rows column count : ℕ) → 1 ≤ row → row ≤ rows → column < count → (nat_le 1 row && (nat_le row rows && nat_lt column count)) ≡ true
cell_test row rows column count low high within = search (rules, low, high, within)

cell_rows : (row rows column count : ℕ) → (nat_le 1 row && (nat_le row rows && nat_lt column count)) ≡ true → (1 ≤ row) × (row ≤ rows)
cell_rows row rows column count e = (low row rows column count e, high row rows column count e)
  where
    low : (row rows column count : ℕ) → (nat_le 1 row && (nat_le row rows && nat_lt column count)) ≡ true → 1 ≤ row
    low row rows column count e = search (rules, e)

    high : (row rows column count : ℕ) → (nat_le 1 row && (nat_le row rows && nat_lt column count)) ≡ true → row ≤ rows
    high row rows column count e = search (rules, e)

pub row_is : (x : Assembly) (table row : ℕ) → 1 ≤ row → row ≤ count_in x table → is_row x table row ≡ true
row_is x table row low high = ap (λ (b : Bool). b && nat_le row (count_in x table)) (lt_true 0 row low) ∙ le_true row (count_in x table) high

module _ (x : Assembly) (read : IsRead x) where
  abbrev bytes : List ℕ
  bytes = root.tables x.meta

  same_count : (table : ℕ) → stream.count_of (stream.sizes_of bytes) table ≡ count_in x table
  same_count table = sym (read.cells.rows table)

  named : (table row column : ℕ) → 1 ≤ row → row ≤ rows_in bytes table → column < length (columns_of table) → names_nothing x.meta (stream.sizes_of bytes) (stream.kind_of table column) (stream.cell bytes table row column) ≡ false
  named table row column low high within = go (names_nothing x.meta (stream.sizes_of bytes) (stream.kind_of table column) (stream.cell bytes table row column)) refl
    where
      go : (b : Bool) → names_nothing x.meta (stream.sizes_of bytes) (stream.kind_of table column) (stream.cell bytes table row column) ≡ b → b ≡ false
      go true e = absurd (read.rows (record { rule = naming_rule (stream.kind_of table column); assembly = read.number; table = table; row = row; at = column })
          (record { assembly_is = refl; place = (low, high, within); breaks = inr (inl (refl, e)) }))
      go false e = refl

  same_cell : (table row column : ℕ) → 1 ≤ row → row ≤ rows_in bytes table → column < length (columns_of table) → cell x table row column ≡ stream.cell bytes table row column
  same_cell table row column low high within =
      ap or_zero (read.cells.cells table row column)
      ∙ ap (λ (b : Bool). or_zero (cond b (Some (stream.cell bytes table row column)) None)) (cell_test row (rows_in bytes table) column (length (columns_of table)) low high within)

  of_tag : (o : Option ℕ) (row : ℕ) → is_past (stream.sizes_of bytes) o row ≡ false → IsWithin x o row
  of_tag None row e = absurd cc
  of_tag (Some table) row e = let l : row ≤ stream.count_of (stream.sizes_of bytes) table = not_less (stream.count_of (stream.sizes_of bytes) table) row e in omega (arith, l, same_count table)

  of_column : (k : Column) (v : ℕ) → names_nothing x.meta (stream.sizes_of bytes) k v ≡ false → LeadsTo x k v
  of_column U8 v e = tt
  of_column U16 v e = tt
  of_column U32 v e = tt
  of_column StringIndex v e = tt
  of_column GuidIndex v e = tt
  of_column BlobIndex v e = tt
  of_column (Row table) v e = let l : v ≤ stream.count_of (stream.sizes_of bytes) table = not_less (stream.count_of (stream.sizes_of bytes) table) v e in omega (arith, l, same_count table)
  of_column (FirstRow table) v e = let l : v ≤ stream.count_of (stream.sizes_of bytes) table + 1 = not_less (stream.count_of (stream.sizes_of bytes) table + 1) v e in omega (arith, l, same_count table)
  of_column (Coded coded) v e = of_tag (table_of_tag coded (v % 2 ^ tag_bits coded)) (v / 2 ^ tag_bits coded) e

  pub leads_on : (table row column : ℕ) → 1 ≤ row → row ≤ count_in x table → column < length (columns_of table) → LeadsTo x (stream.kind_of table column) (cell x table row column)
  leads_on table row column low high within =
      let top : row ≤ rows_in bytes table = omega (arith, high, same_count table) in
      of_column (stream.kind_of table column) (cell x table row column)
      (ap (names_nothing x.meta (stream.sizes_of bytes) (stream.kind_of table column)) (same_cell table row column low top within) ∙ named table row column low top within)

  absent : (table row column : ℕ) → is_cell_in bytes table row column ≡ false → cell x table row column ≡ 0
  absent table row column e = ap or_zero (read.cells.cells table row column) ∙ ap (λ (b : Bool). or_zero (cond b (Some (stream.cell bytes table row column)) None)) e

  -- what holds of 0 and of the cells of rows that there are holds of all
  pub any_row : (P : ℕ → Type 0) (table row column : ℕ) → P 0 → (1 ≤ row → row ≤ count_in x table → P (cell x table row column)) → P (cell x table row column)
  any_row P table row column zero_too there = go (is_cell_in bytes table row column) refl
    where
      go : (b : Bool) → is_cell_in bytes table row column ≡ b → P (cell x table row column)
      go true e = let at : (1 ≤ row) × (row ≤ rows_in bytes table) = cell_rows row (rows_in bytes table) column (length (columns_of table)) e in there at.0 (omega (arith, at.1, same_count table))
      go false e = subst P (sym (absent table row column e)) zero_too

  -- the row that a coded index of a tag names
  pub of_coded : (coded : CodedIndex) (v t table : ℕ) → table_of_tag coded t ≡ Some table → v % 2 ^ tag_bits coded ≡ t → LeadsTo x (Coded coded) v → v / 2 ^ tag_bits coded ≤ count_in x table
  of_coded coded v t table e f leads = subst (λ (o : Option ℕ). IsWithin x o (v / 2 ^ tag_bits coded)) (ap (table_of_tag coded) f ∙ e) leads

  pub no_tag : (coded : CodedIndex) (v t : ℕ) → table_of_tag coded t ≡ None → v % 2 ^ tag_bits coded ≡ t → LeadsTo x (Coded coded) v → ⊥
  no_tag coded v t e f leads = subst (λ (o : Option ℕ). IsWithin x o (v / 2 ^ tag_bits coded)) (ap (table_of_tag coded) f ∙ e) leads
