-- The rules on types, names and members that a set keeps, and where its indexes lead (ECMA-335, II.22, II.24.2.6).
use Rattle.std.specs.Prelude.{◌≡◌, ℕ, ◌≤◌, ◌/◌, ◌%◌, ◌==◌, ◌&&◌, is_some, Bool, true, false, None, if◌then◌else◌}
use Rattle.cil_base.specs.declared.tables.TheConstants.{FIELD, INTERFACE_IMPL, MEMBER_REF, METHOD_DEF, METHOD_IMPL, METHOD_SPEC, TYPE_DEF, TYPE_REF, TYPE_SPEC}
use Rattle.cil_base.specs.Refusals.{first_of}
use Rattle.set_rows.specs.Sets.{Assembly, Assemblies, assembly_at, count_in, cell, blob, is_row}
use Rattle.set_types.specs.CodedIndexes.{tag, row_of}
use Rattle.set_signatures.specs.Blobs.{spec_sig, is_field_blob}
use Rattle.set_program.specs.TypeRules.{type_tests}
use Rattle.member_table.specs.Members.{is_type, parent_index}
use Rattle.member_table.specs.MemberRules.{member_tests}

-- no row of the set fails a test
pub record KeepsRules (s : Assemblies) : Type 0 where
  pub types : (a table row : ℕ) → 1 ≤ row → row ≤ count_in (assembly_at s a) table → first_of (type_tests s a table row) ≡ None
  pub members : (a table row : ℕ) → 1 ≤ row → row ≤ count_in (assembly_at s a) table → first_of (member_tests s a table row) ≡ None

-- a TypeDefOrRef index that is 0, or of a row whose signature, if it has one, is in the grammar
abbrev pub is_type_index : Assembly → ℕ → Bool
is_type_index x coded =
    if row_of coded == 0 then true
    else if tag coded == 2 then is_row x TYPE_SPEC (row_of coded) && is_some (spec_sig (blob x TYPE_SPEC (row_of coded) 0))
    else if tag coded == 0 then is_row x TYPE_DEF (row_of coded)
    else if tag coded == 1 then is_row x TYPE_REF (row_of coded)
    else false

-- Signatures of fields and methods are of their kind (S1), and bases and parents lead to rows (M5)
pub record HasIndexes (s : Assemblies) : Type 0 where
  pub field_blobs : (a row : ℕ) → 1 ≤ row → row ≤ count_in (assembly_at s a) FIELD → is_field_blob (blob (assembly_at s a) FIELD row 2) ≡ true
  pub method_blobs : (a row : ℕ) → 1 ≤ row → row ≤ count_in (assembly_at s a) METHOD_DEF → is_field_blob (blob (assembly_at s a) METHOD_DEF row 4) ≡ false
  pub bases : (a row : ℕ) → 1 ≤ row → row ≤ count_in (assembly_at s a) TYPE_DEF → is_type_index (assembly_at s a) (cell (assembly_at s a) TYPE_DEF row 3) ≡ true
  pub parents : (a row : ℕ) → 1 ≤ row → row ≤ count_in (assembly_at s a) MEMBER_REF → is_type (cell (assembly_at s a) MEMBER_REF row 0) ≡ true → is_type_index (assembly_at s a) (parent_index (cell (assembly_at s a) MEMBER_REF row 0)) ≡ true

-- a MethodDefOrRef index that is 0, or of a row
abbrev pub is_method_index : Assembly → ℕ → Bool
is_method_index x coded = if coded / 2 == 0 then true else if coded % 2 == 0 then is_row x METHOD_DEF (coded / 2) else is_row x MEMBER_REF (coded / 2)

-- interfaces, and what rows of MethodImpl and MethodSpec name, are rows or 0 (M5)
pub record HasMethodIndexes (s : Assemblies) : Type 0 where
  pub interfaces : (a k : ℕ) → 1 ≤ k → k ≤ count_in (assembly_at s a) INTERFACE_IMPL → is_type_index (assembly_at s a) (cell (assembly_at s a) INTERFACE_IMPL k 1) ≡ true
  pub bodies : (a k : ℕ) → 1 ≤ k → k ≤ count_in (assembly_at s a) METHOD_IMPL → is_method_index (assembly_at s a) (cell (assembly_at s a) METHOD_IMPL k 1) ≡ true
  pub declarations : (a k : ℕ) → 1 ≤ k → k ≤ count_in (assembly_at s a) METHOD_IMPL → is_method_index (assembly_at s a) (cell (assembly_at s a) METHOD_IMPL k 2) ≡ true
  pub instances : (a row : ℕ) → 1 ≤ row → row ≤ count_in (assembly_at s a) METHOD_SPEC → is_method_index (assembly_at s a) (cell (assembly_at s a) METHOD_SPEC row 0) ≡ true
