-- What stays where rows are appended to TARGET's tables (own).
use Rattle.std.specs.Prelude.{◌≡◌, ℕ, ◌≤◌, Option, Some, List, ◌++◌}
use Rattle.cil_base.specs.declared.tables.TheConstants.{FIELD, METHOD_DEF, TYPE_DEF, TYPE_REF}
use Rattle.set_names.specs.Names.{Name}
use Rattle.set_rows.specs.Sets.{Assembly, Assemblies, assembly_at, count_in}
use Rattle.set_rows.specs.Owners.{owner}
use Rattle.set_program.specs.declared.identity.TypeId.{TypeId}
use Rattle.set_program.specs.TypeNames.{enclosing, full_name, type_named}
use Rattle.set_program.specs.References.{found_in, inside, reference}
use Rattle.set_program.specs.Numbering.{type_ids, number_in}
use Rattle.row_descriptions.specs.RowLists.{owned}

-- what there is stays the same
abbrev pub Stays : {A : Type 0} → Option A → Option A → Type 0
Stays {A} o o' = (v : A) → o ≡ Some v → o' ≡ Some v

-- names, nesting and lists of TARGET's old types
pub record KeepsNames (x x' : Assembly) : Type 0 where
  pub around : (row : ℕ) → row ≤ count_in x TYPE_DEF → enclosing x' row ≡ enclosing x row
  pub names : (row : ℕ) → 1 ≤ row → row ≤ count_in x TYPE_DEF → full_name x' row ≡ full_name x row
  pub named : (name : Name) → Stays (type_named x name) (type_named x' name)
  pub fields : (row : ℕ) → row ≤ count_in x TYPE_DEF → owned x' 4 FIELD row ≡ owned x 4 FIELD row
  pub methods : (row : ℕ) → row ≤ count_in x TYPE_DEF → owned x' 5 METHOD_DEF row ≡ owned x 5 METHOD_DEF row
  pub field_owner : (k : ℕ) → Stays (owner x 4 FIELD k) (owner x' 4 FIELD k)
  pub method_owner : (k : ℕ) → Stays (owner x 5 METHOD_DEF k) (owner x' 5 METHOD_DEF k)

-- what rows of TypeRef and TypeDef name, and the numbers of types
pub record KeepsTypes (s s' : Assemblies) : Type 0 where
  pub references : (a row : ℕ) → row ≤ count_in (assembly_at s a) TYPE_REF → Stays (reference s a row) (reference s' a row)
  pub found : (name : Name) (a : ℕ) → Stays (found_in s name a) (found_in s' name a)
  pub inner : (name : Name) (id : TypeId) → Stays (inside s name id) (inside s' name id)
  pub types : (attributes : List Name) → (more : List TypeId) × (type_ids s' attributes ≡ type_ids s attributes ++ more)
  pub numbers : (attributes : List Name) (id : TypeId) → Stays (number_in (type_ids s attributes) id) (number_in (type_ids s' attributes) id)
