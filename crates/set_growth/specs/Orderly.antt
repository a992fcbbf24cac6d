-- What the rules on tables and names give of TARGET (ECMA-335, II.22).
use Rattle.std.specs.Prelude.{◌≡◌, ℕ, ◌+◌, ◌≤◌, ◌==◌, true, is_some, Some, None}
use Rattle.cil_base.specs.declared.tables.TheConstants.{ASSEMBLY_REF, EXPORTED_TYPE, FIELD, METHOD_DEF, TYPE_DEF, TYPE_REF}
use Rattle.set_rows.specs.Sets.{Assembly, count_in, cell}
use Rattle.set_rows.specs.Owners.{owned_end}
use Rattle.set_types.specs.CodedIndexes.{tag, row_of}
use Rattle.set_program.specs.TypeNames.{enclosing, full_name, type_named}
use Rattle.set_program.specs.References.{outer_reference}
use Rattle.set_program.specs.Numbering.{runtime_name}

-- Indexes and lists keep to rows, types have names, and none is the runtime class
pub record IsOrderly (x : Assembly) : Type 0 where
  pub exported : (row : ℕ) → (tag (cell x EXPORTED_TYPE row 4) == 1) ≡ true → row_of (cell x EXPORTED_TYPE row 4) ≤ count_in x ASSEMBLY_REF
  pub scopes : (row : ℕ) → (tag (cell x TYPE_REF row 0) == 2) ≡ true → row_of (cell x TYPE_REF row 0) ≤ count_in x ASSEMBLY_REF
  pub outer : (row next : ℕ) → outer_reference x row ≡ Some next → next ≤ count_in x TYPE_REF
  pub around : (row next : ℕ) → enclosing x row ≡ Some next → next ≤ count_in x TYPE_DEF
  pub named : (row : ℕ) → 1 ≤ row → row ≤ count_in x TYPE_DEF → is_some (full_name x row) ≡ true
  pub field_lists : (row : ℕ) → row ≤ count_in x TYPE_DEF → owned_end x 4 FIELD row ≤ count_in x FIELD + 1
  pub method_lists : (row : ℕ) → row ≤ count_in x TYPE_DEF → owned_end x 5 METHOD_DEF row ≤ count_in x METHOD_DEF + 1
  pub no_runtime : type_named x runtime_name ≡ None
