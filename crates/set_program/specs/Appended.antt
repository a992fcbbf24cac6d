-- Rows of TypeRef, MemberRef, TypeSpec, AssemblyRef and MethodSpec that are appended to an assembly's tables (ECMA-335, II.22).
use Rattle.std.specs.Prelude.{◌≡◌, ℕ, ◌≤◌, ◌==◌, ◌||◌, Bool, true, false, List, [], ◌++◌, is_some, Some}
use Rattle.set_program.specs.declared.identity.TypeId.{TypeId}
use Rattle.set_names.specs.Names.{Name}
use Rattle.set_rows.specs.Sets.{Assembly, Assemblies, assembly_at, count_in, cell, text}
use Rattle.set_types.specs.CodedIndexes.{tag, row_of}
use Rattle.set_program.specs.References.{outer_reference, reference}
use Rattle.set_program.specs.Numbering.{type_ids, number_in, new_rows}
use Rattle.cil_base.specs.declared.tables.TheConstants.{ASSEMBLY_REF, EXPORTED_TYPE, MEMBER_REF, METHOD_SPEC, TYPE_DEF, TYPE_REF, TYPE_SPEC}

-- a table to which such rows are appended
abbrev pub grows : ℕ → Bool
grows table = (table == TYPE_REF) || ((table == MEMBER_REF) || ((table == TYPE_SPEC) || ((table == ASSEMBLY_REF) || (table == METHOD_SPEC))))

-- Old rows have their numbers and cells, and strings their places; the other tables are as they were.
pub record AppendsReferences (x x' : Assembly) : Type 0 where
  pub more : (table : ℕ) → count_in x table ≤ count_in x' table
  pub same_count : (table : ℕ) → grows table ≡ false → count_in x' table ≡ count_in x table
  pub old_cells : (table row column : ℕ) → row ≤ count_in x table → cell x' table row column ≡ cell x table row column
  pub old_texts : (table row column : ℕ) → row ≤ count_in x table → text x' table row column ≡ text x table row column
  pub same_cells : (table row column : ℕ) → grows table ≡ false → cell x' table row column ≡ cell x table row column
  pub same_texts : (table row column : ℕ) → grows table ≡ false → text x' table row column ≡ text x table row column

-- indexes of AssemblyRef and TypeRef rows are those of rows, or 0
pub record AreIndexes (x : Assembly) : Type 0 where
  pub exported : (row : ℕ) → (tag (cell x EXPORTED_TYPE row 4) == 1) ≡ true → row_of (cell x EXPORTED_TYPE row 4) ≤ count_in x ASSEMBLY_REF
  pub scopes : (row : ℕ) → (tag (cell x TYPE_REF row 0) == 2) ≡ true → row_of (cell x TYPE_REF row 0) ≤ count_in x ASSEMBLY_REF
  pub outer : (row next : ℕ) → outer_reference x row ≡ Some next → next ≤ count_in x TYPE_REF

-- each TypeRef row names a type
abbrev pub AllNamed : Assemblies → Type 0
AllNamed s = (a row : ℕ) → row ≤ count_in (assembly_at s a) TYPE_REF → 1 ≤ row → is_some (reference s a row) ≡ true

-- What TypeRef rows name stays, and so do the numbers of types.
pub record KeepsTypes (s s' : Assemblies) : Type 0 where
  pub references : (a row : ℕ) (id : TypeId) → row ≤ count_in (assembly_at s a) TYPE_REF → reference s a row ≡ Some id → reference s' a row ≡ Some id
  pub types : (attributes : List Name) → new_rows s TYPE_DEF ≡ [] → (more : List TypeId) × (type_ids s' attributes ≡ type_ids s attributes ++ more)
  pub numbers : (attributes : List Name) → new_rows s TYPE_DEF ≡ [] → (id : TypeId) (k : ℕ) → number_in (type_ids s attributes) id ≡ Some k → number_in (type_ids s' attributes) id ≡ Some k
