-- Rows that are appended to TARGET's tables: imports, and the runtime class behind all types (ECMA-335, II.22; own).
use Rattle.std.specs.Prelude.{◌≡◌, ℕ, ◌+◌, ◌<◌, ◌≤◌, ◌/◌, ◌%◌, ◌==◌, ◌||◌, ◌&&◌, Bool, true, false, List, [], ◌∷◌, find, Some}
use Rattle.cil_base.specs.declared.tables.TheConstants.{ASSEMBLY, ASSEMBLY_REF, CUSTOM_ATTRIBUTE, EXPORTED_TYPE, FIELD, MEMBER_REF, METHOD_DEF, METHOD_SPEC, NESTED_CLASS, PARAM, PROPERTY, STAND_ALONE_SIG, TYPE_DEF, TYPE_REF, TYPE_SPEC}
use Rattle.cil_base.specs.declared.token.Token.{Token}
use Rattle.cil_model.specs.declared.program.TokenRow.{TokenRow}
use Rattle.cil_model.specs.TokenLists.{is_row_of}
use Rattle.cil_semantics.specs.Words.{any}
use Rattle.cil_semantics.specs.Contracted.{is_seen_type, is_seen_method}
use Rattle.cli_heaps.specs.Root.{user_strings}
use Rattle.set_names.specs.Names.{Name, is_name}
use Rattle.set_rows.specs.Sets.{Assembly, Assemblies, count_in, cell, text, blob}
use Rattle.set_rows.specs.Owners.{owned_end}
use Rattle.set_program.specs.TypeNames.{full_name}
use Rattle.set_program.specs.References.{exported_named}
use Rattle.set_program.specs.Numbering.{runtime_name}
use Rattle.set_program.specs.Attributes.{attribute_outside, has_attribute}
use Rattle.set_program.specs.Environment.{is_value}
use Rattle.row_descriptions.specs.UserTexts.{user_texts}

-- the tables to which rows are appended
abbrev pub gains : ℕ → Bool
gains table =
    any (λ t. t == table) (TYPE_REF ∷ TYPE_DEF ∷ FIELD ∷ METHOD_DEF ∷ PARAM ∷ MEMBER_REF ∷ STAND_ALONE_SIG ∷ TYPE_SPEC ∷ ASSEMBLY_REF ∷ NESTED_CLASS ∷ METHOD_SPEC ∷ [])

-- the columns that change in old rows: a method's RVA, and flags, of which the access bits do
abbrev pub varies : ℕ → ℕ → Bool
varies table column = ((table == METHOD_DEF) && ((column == 0) || (column == 2))) || (((table == TYPE_DEF) || (table == FIELD)) && (column == 0))

abbrev pub stands_in : List (ℕ × ℕ) → ℕ → ℕ → Bool
stands_in columns table column = any (λ (c : ℕ × ℕ). (c.0 == table) && (c.1 == column)) columns

-- the columns that name strings, and those that name blobs, of which definitions read what stands there
abbrev pub is_text : ℕ → ℕ → Bool
is_text = stands_in ((TYPE_REF, 1) ∷ (TYPE_REF, 2) ∷ (TYPE_DEF, 1) ∷ (TYPE_DEF, 2) ∷ (FIELD, 1) ∷ (METHOD_DEF, 3) ∷ (MEMBER_REF, 1) ∷ (ASSEMBLY, 7) ∷ (ASSEMBLY_REF, 6) ∷ (EXPORTED_TYPE, 2) ∷ (EXPORTED_TYPE, 3) ∷ [])

abbrev pub is_blob : ℕ → ℕ → Bool
is_blob = stands_in ((FIELD, 2) ∷ (METHOD_DEF, 4) ∷ (MEMBER_REF, 2) ∷ (CUSTOM_ATTRIBUTE, 2) ∷ (STAND_ALONE_SIG, 0) ∷ (PROPERTY, 2) ∷ (TYPE_SPEC, 0) ∷ (METHOD_SPEC, 1) ∷ [])

-- Old rows keep their numbers, and what their columns name but for access and RVAs; the other tables are as they were.
pub record KeepsRows (x x' : Assembly) : Type 0 where
  pub more : (table : ℕ) → count_in x table ≤ count_in x' table
  pub same_count : (table : ℕ) → gains table ≡ false → count_in x' table ≡ count_in x table
  pub old_cells : (table row column : ℕ) → varies table column ≡ false → row ≤ count_in x table → cell x' table row column ≡ cell x table row column
  pub old_texts : (table row column : ℕ) → is_text table column ≡ true → row ≤ count_in x table → text x' table row column ≡ text x table row column
  pub old_blobs : (table row column : ℕ) → is_blob table column ≡ true → row ≤ count_in x table → blob x' table row column ≡ blob x table row column
  pub same_cells : (table row column : ℕ) → gains table ≡ false → cell x' table row column ≡ cell x table row column
  pub same_texts : (table row column : ℕ) → gains table ≡ false → is_text table column ≡ true → text x' table row column ≡ text x table row column

-- Old flags differ in the three access bits alone. What is public, or seen by those who derive, stays so, and nothing else becomes so (II.23.1.5, II.23.1.10, II.23.1.15).
pub record KeepsAccess (x x' : Assembly) : Type 0 where
  pub types : (row : ℕ) → row ≤ count_in x TYPE_DEF → cell x' TYPE_DEF row 0 / 8 ≡ cell x TYPE_DEF row 0 / 8
  pub seen_types : (row : ℕ) → row ≤ count_in x TYPE_DEF → is_seen_type (cell x' TYPE_DEF row 0) ≡ is_seen_type (cell x TYPE_DEF row 0)
  pub fields : (row : ℕ) → row ≤ count_in x FIELD → cell x' FIELD row 0 / 8 ≡ cell x FIELD row 0 / 8
  pub methods : (row : ℕ) → row ≤ count_in x METHOD_DEF → cell x' METHOD_DEF row 2 / 8 ≡ cell x METHOD_DEF row 2 / 8
  pub public_methods : (row : ℕ) → row ≤ count_in x METHOD_DEF → (cell x' METHOD_DEF row 2 % 8 == 6) ≡ (cell x METHOD_DEF row 2 % 8 == 6)
  pub seen_methods : (row : ℕ) → row ≤ count_in x METHOD_DEF → is_seen_method (cell x' METHOD_DEF row 2) ≡ is_seen_method (cell x METHOD_DEF row 2)

-- Rows are appended: of types there is none more, or the first is the runtime class; the lists of the old types end where they did, new NestedClass rows nest new types, and no ExportedType row has the name of a new type.
pub record IsGrown (x x' : Assembly) : Type 0 where
  pub rows : KeepsRows x x'
  pub runtime : count_in x TYPE_DEF < count_in x' TYPE_DEF → full_name x' (count_in x TYPE_DEF + 1) ≡ Some runtime_name
  pub fields_end : owned_end x' 4 FIELD (count_in x TYPE_DEF) ≡ count_in x FIELD + 1
  pub methods_end : owned_end x' 5 METHOD_DEF (count_in x TYPE_DEF) ≡ count_in x METHOD_DEF + 1
  pub nested : (k : ℕ) → count_in x NESTED_CLASS < k → k ≤ count_in x' NESTED_CLASS → count_in x TYPE_DEF < cell x' NESTED_CLASS k 0
  pub unforwarded : (name : Name) (e row : ℕ) → exported_named x name ≡ Some e → count_in x TYPE_DEF < row → row ≤ count_in x' TYPE_DEF → is_name name (full_name x' row) ≡ false

-- No attribute is appended, and no appended signature makes an outside type a value type that was none.
pub record SaysAlike (s s' : Assemblies) : Type 0 where
  pub attributes : attribute_outside s' ≡ attribute_outside s
  pub has : (a parent : ℕ) (name : Name) → has_attribute s' a name parent ≡ has_attribute s a name parent
  pub values : (name : Name) → is_value s' name ≡ is_value s name

-- entries of `#US` keep their places
abbrev pub KeepsTexts : Assembly → Assembly → Type 0
KeepsTexts x x' = (t : Token) (row : TokenRow) → find (is_row_of 0 t) (user_texts 0 (user_strings x.meta)) ≡ Some row → find (is_row_of 0 t) (user_texts 0 (user_strings x'.meta)) ≡ Some row
