-- Where the indexes of TARGET lead, by table.
use Rattle.std.proofs.Common.{◌≡◌, ap, refl, arith, ℕ, zero, suc, ◌+◌, ◌≤◌, Bool, true, false}
use Rattle.std.specs.Prelude.{find, nat_lt, ◌==◌, unwrap_or, Option, Some, None, if◌then◌else◌}
use Rattle.std.proofs.lemmas.Bool.{eqb-true}
use Rattle.cil_base.specs.declared.tables.TheConstants.{ASSEMBLY_REF, EXPORTED_TYPE, FIELD, INTERFACE_IMPL, METHOD_DEF, NESTED_CLASS, TYPE_DEF, TYPE_REF}
use Rattle.cli_tables.specs.declared.schema.CodedIndex.TheVariants.{Implementation, ResolutionScope}
use Rattle.cli_tables.specs.declared.schema.Column.TheVariants.{Row, FirstRow, Coded}
use Rattle.cli_tables.specs.Schema.{the_tables}
use Rattle.set_rows.specs.Sets.{Assembly, count_in, cell, is_row, rows_in}
use Rattle.set_rows.specs.Owners.{owned_end}
use Rattle.set_names.specs.Paths.{if_row}
use Rattle.set_types.specs.CodedIndexes.{tag, row_of}
use Rattle.set_program.specs.TypeNames.{enclosing, enclosing_in}
use Rattle.set_program.specs.References.{outer_reference}
use Rattle.growth_rules.specs.Reading.{IsRead, LeadsTo}
use Rattle.growth_rules.proofs.IndexLaws.{leads_on, any_row, of_coded}

if_row_is : (n k : ℕ) → if_row n ≡ Some k → n ≡ k
if_row_is n k e = go (n == 0) e
  where
    go : (b : Bool) → (if b then None else Some n) ≡ Some k → n ≡ k
    go true f = absurd cc
    go false f = ap (λ (o : Option ℕ). unwrap_or o n) f

if_row_low : (n k : ℕ) → if_row n ≡ Some k → 1 ≤ k
if_row_low zero k e = absurd cc
if_row_low (suc n) k e = let same : suc n ≡ k = if_row_is (suc n) k e in omega (arith, same)

module _ (x : Assembly) (read : IsRead x) where
  exported_at : (row : ℕ) → 1 ≤ row → row ≤ count_in x EXPORTED_TYPE → LeadsTo x (Coded Implementation) (cell x EXPORTED_TYPE row 4)
  unfolding the_tables
  exported_at row low high = leads_on x read EXPORTED_TYPE row 4 low high (omega arith)

  pub exported : (row : ℕ) → (tag (cell x EXPORTED_TYPE row 4) == 1) ≡ true → row_of (cell x EXPORTED_TYPE row 4) ≤ count_in x ASSEMBLY_REF
  exported row =
      any_row x read (λ v. (tag v == 1) ≡ true → row_of v ≤ count_in x ASSEMBLY_REF) EXPORTED_TYPE row 4 (λ e. omega arith)
      (λ low high e. of_coded x read Implementation (cell x EXPORTED_TYPE row 4) 1 ASSEMBLY_REF refl (eqb-true (tag (cell x EXPORTED_TYPE row 4)) 1 e) (exported_at row low high))

  scope_at : (row : ℕ) → 1 ≤ row → row ≤ count_in x TYPE_REF → LeadsTo x (Coded ResolutionScope) (cell x TYPE_REF row 0)
  unfolding the_tables
  scope_at row low high = leads_on x read TYPE_REF row 0 low high (omega arith)

  pub scopes : (row : ℕ) → (tag (cell x TYPE_REF row 0) == 2) ≡ true → row_of (cell x TYPE_REF row 0) ≤ count_in x ASSEMBLY_REF
  scopes row =
      any_row x read (λ v. (tag v == 2) ≡ true → row_of v ≤ count_in x ASSEMBLY_REF) TYPE_REF row 0 (λ e. omega arith)
      (λ low high e. of_coded x read ResolutionScope (cell x TYPE_REF row 0) 2 ASSEMBLY_REF refl (eqb-true (tag (cell x TYPE_REF row 0)) 2 e) (scope_at row low high))

  outer_row : (row : ℕ) → (tag (cell x TYPE_REF row 0) == 3) ≡ true → row_of (cell x TYPE_REF row 0) ≤ count_in x TYPE_REF
  outer_row row =
      any_row x read (λ v. (tag v == 3) ≡ true → row_of v ≤ count_in x TYPE_REF) TYPE_REF row 0 (λ e. omega arith)
      (λ low high e. of_coded x read ResolutionScope (cell x TYPE_REF row 0) 3 TYPE_REF refl (eqb-true (tag (cell x TYPE_REF row 0)) 3 e) (scope_at row low high))

  pub outer : (row next : ℕ) → outer_reference x row ≡ Some next → next ≤ count_in x TYPE_REF
  unfolding outer_reference
  outer row next e = go (tag (cell x TYPE_REF row 0) == 3) refl e
    where
      go : (b : Bool) → (tag (cell x TYPE_REF row 0) == 3) ≡ b → (if b then if_row (row_of (cell x TYPE_REF row 0)) else None) ≡ Some next → next ≤ count_in x TYPE_REF
      go true f g = let high : row_of (cell x TYPE_REF row 0) ≤ count_in x TYPE_REF = outer_row row f in omega (arith, high, if_row_is (row_of (cell x TYPE_REF row 0)) next g)
      go false f g = absurd cc

  nested_at : (row : ℕ) → 1 ≤ row → row ≤ count_in x NESTED_CLASS → LeadsTo x (Row TYPE_DEF) (cell x NESTED_CLASS row 1)
  unfolding the_tables
  nested_at row low high = leads_on x read NESTED_CLASS row 1 low high (omega arith)

  nested : (row : ℕ) → cell x NESTED_CLASS row 1 ≤ count_in x TYPE_DEF
  nested row = any_row x read (λ v. v ≤ count_in x TYPE_DEF) NESTED_CLASS row 1 (omega arith) (nested_at row)

  pub around : (row next : ℕ) → enclosing x row ≡ Some next → (1 ≤ next) × (next ≤ count_in x TYPE_DEF)
  unfolding enclosing
  around row next e = go (is_row x TYPE_DEF row) e
    where
      by_found : (o : Option ℕ) → enclosing_in x o ≡ Some next → (1 ≤ next) × (next ≤ count_in x TYPE_DEF)
      by_found None f = absurd cc
      by_found (Some k) f = (if_row_low (cell x NESTED_CLASS k 1) next f, let high : cell x NESTED_CLASS k 1 ≤ count_in x TYPE_DEF = nested k in omega (arith, high, if_row_is (cell x NESTED_CLASS k 1) next f))

      go : (b : Bool) → (if b then enclosing_in x (find (λ k. cell x NESTED_CLASS k 0 == row) (rows_in x NESTED_CLASS)) else None) ≡ Some next → (1 ≤ next) × (next ≤ count_in x TYPE_DEF)
      go true f = by_found (find (λ k. cell x NESTED_CLASS k 0 == row) (rows_in x NESTED_CLASS)) f
      go false f = absurd cc

  interface_at : (row : ℕ) → 1 ≤ row → row ≤ count_in x INTERFACE_IMPL → LeadsTo x (Row TYPE_DEF) (cell x INTERFACE_IMPL row 0)
  unfolding the_tables
  interface_at row low high = leads_on x read INTERFACE_IMPL row 0 low high (omega arith)

  pub interface_classes : (row : ℕ) → cell x INTERFACE_IMPL row 0 ≤ count_in x TYPE_DEF
  interface_classes row = any_row x read (λ v. v ≤ count_in x TYPE_DEF) INTERFACE_IMPL row 0 (omega arith) (interface_at row)

  fields_at : (row : ℕ) → 1 ≤ row → row ≤ count_in x TYPE_DEF → LeadsTo x (FirstRow FIELD) (cell x TYPE_DEF row 4)
  unfolding the_tables
  fields_at row low high = leads_on x read TYPE_DEF row 4 low high (omega arith)

  methods_at : (row : ℕ) → 1 ≤ row → row ≤ count_in x TYPE_DEF → LeadsTo x (FirstRow METHOD_DEF) (cell x TYPE_DEF row 5)
  unfolding the_tables
  methods_at row low high = leads_on x read TYPE_DEF row 5 low high (omega arith)

  list_end : (column table row : ℕ) → cell x TYPE_DEF (row + 1) column ≤ count_in x table + 1 → owned_end x column table row ≤ count_in x table + 1
  list_end column table row h = go (nat_lt row (count_in x TYPE_DEF))
    where
      go : (b : Bool) → (if b then cell x TYPE_DEF (row + 1) column else count_in x table + 1) ≤ count_in x table + 1
      go true = h
      go false = omega arith

  pub field_lists : (row : ℕ) → owned_end x 4 FIELD row ≤ count_in x FIELD + 1
  field_lists row = list_end 4 FIELD row (any_row x read (λ v. v ≤ count_in x FIELD + 1) TYPE_DEF (row + 1) 4 (omega arith) (fields_at (row + 1)))

  pub method_lists : (row : ℕ) → owned_end x 5 METHOD_DEF row ≤ count_in x METHOD_DEF + 1
  method_lists row = list_end 5 METHOD_DEF row (any_row x read (λ v. v ≤ count_in x METHOD_DEF + 1) TYPE_DEF (row + 1) 5 (omega arith) (methods_at (row + 1)))
