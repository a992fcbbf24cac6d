-- What the rules on names and members give of a set (ECMA-335, II.22).
use Rattle.std.specs.Prelude.{◌≡◌, ℕ, ◌*◌, ◌<◌, ◌≤◌, ◌/◌, ◌%◌, ◌==◌, Bool, true, false, is_some, is_none, length, slice_get, Some}
use Rattle.cil_base.specs.declared.tables.TheConstants.{FIELD, INTERFACE_IMPL, MEMBER_REF, METHOD_DEF, METHOD_IMPL, METHOD_SPEC, TYPE_DEF}
use Rattle.set_rows.specs.Sets.{Assemblies, assembly_at, count_in, cell, blob}
use Rattle.set_types.specs.CodedIndexes.{row_of}
use Rattle.set_signatures.specs.Blobs.{is_field_blob}
use Rattle.set_program.specs.Appended.{AllNamed}
use Rattle.set_program.specs.declared.identity.TypeId.{TypeId}
use Rattle.set_program.specs.declared.identity.TypeId.TheVariants as type_id
use Rattle.set_program.specs.TypeNames.{enclosing}
use Rattle.set_program.specs.Numbering.{Cell}
use Rattle.set_program.specs.Attributes.{named_id}
use Rattle.set_program.specs.Environment.{types_of, number_of, coded_in, row_types, ty_at}
use Rattle.members.specs.MemberRows.{member_table, row_owner}
use Rattle.members.specs.declared.outside_member.OutsideMember.{OutsideMember}
use Rattle.member_table.specs.declared.named.Found.{Found}
use Rattle.member_table.specs.declared.named.Named.TheVariants as named
use Rattle.member_table.specs.declared.named.MemberId.{MemberId}
use Rattle.member_table.specs.declared.named.MemberId.TheVariants as id
use Rattle.member_table.specs.Members.{is_type, parent_index, member}
use Rattle.member_table.specs.Numbers.{outside_row, member_ids, member_number}
use Rattle.member_table.specs.MemberRules.{isnt_read, isnt_there}
use Rattle.descriptions.specs.Descriptions.{method_at}

-- a TypeDefOrRef index that isn't 0 names a type
abbrev pub IsTypeIndex : Assemblies → ℕ → ℕ → Type 0
IsTypeIndex s a coded = is_none (ty_at s a coded) ≡ true → row_of coded ≡ 0

-- Each reference names a type, each signature is read, each member has its type and each reference its member (N1, N2), fields and methods have signatures of theirs (S), and bases and parents are types.
pub record IsNamed (s : Assemblies) : Type 0 where
  pub references : AllNamed s
  pub read : (a table row : ℕ) → 1 ≤ row → row ≤ count_in (assembly_at s a) table → isnt_read (coded_in s a) (row_types (assembly_at s a) table row) ≡ false
  pub there : (a table row : ℕ) → 1 ≤ row → row ≤ count_in (assembly_at s a) table → isnt_there s a table row ≡ false
  pub field_blobs : (a row : ℕ) → 1 ≤ row → row ≤ count_in (assembly_at s a) FIELD → is_field_blob (blob (assembly_at s a) FIELD row 2) ≡ true
  pub method_blobs : (a row : ℕ) → 1 ≤ row → row ≤ count_in (assembly_at s a) METHOD_DEF → is_field_blob (blob (assembly_at s a) METHOD_DEF row 4) ≡ false
  pub bases : (a row : ℕ) → 1 ≤ row → row ≤ count_in (assembly_at s a) TYPE_DEF → IsTypeIndex s a (cell (assembly_at s a) TYPE_DEF row 3)
  pub parents : (a row : ℕ) → 1 ≤ row → row ≤ count_in (assembly_at s a) MEMBER_REF → is_type (cell (assembly_at s a) MEMBER_REF row 0) ≡ true → IsTypeIndex s a (parent_index (cell (assembly_at s a) MEMBER_REF row 0))

-- a MethodDefOrRef index that names a method
pub record IsMethodIndex (s : Assemblies) (a coded : ℕ) : Type 0 where
  pub there : is_some (method_at s a coded) ≡ true
  pub low : 1 ≤ coded / 2
  pub row : (coded % 2 == 0) ≡ true → coded / 2 ≤ count_in (assembly_at s a) METHOD_DEF
  pub reference : (coded % 2 == 0) ≡ false → coded / 2 ≤ count_in (assembly_at s a) MEMBER_REF

-- interfaces are types, and rows of MethodImpl and MethodSpec name methods where their indexes aren't 0 (N1, N2)
pub record IsDescribed (s : Assemblies) : Type 0 where
  pub interfaces : (a k : ℕ) → 1 ≤ k → k ≤ count_in (assembly_at s a) INTERFACE_IMPL → IsTypeIndex s a (cell (assembly_at s a) INTERFACE_IMPL k 1)
  pub bodies : (a k : ℕ) → 1 ≤ k → k ≤ count_in (assembly_at s a) METHOD_IMPL → 1 ≤ cell (assembly_at s a) METHOD_IMPL k 1 / 2 → IsMethodIndex s a (cell (assembly_at s a) METHOD_IMPL k 1)
  pub declarations : (a k : ℕ) → 1 ≤ k → k ≤ count_in (assembly_at s a) METHOD_IMPL → 1 ≤ cell (assembly_at s a) METHOD_IMPL k 2 / 2 → IsMethodIndex s a (cell (assembly_at s a) METHOD_IMPL k 2)
  pub instances : (a row : ℕ) → 1 ≤ row → row ≤ count_in (assembly_at s a) METHOD_SPEC → is_some (method_at s a (cell (assembly_at s a) METHOD_SPEC row 0)) ≡ true → IsMethodIndex s a (cell (assembly_at s a) METHOD_SPEC row 0)

-- ---- laws of the numbering of any set

-- a type of the list is a row that there is
abbrev pub IsRowOf : Assemblies → TypeId → Type 0
IsRowOf s (type_id.Row a row) = (a < length s) × ((1 ≤ row) × (row ≤ count_in (assembly_at s a) TYPE_DEF))
IsRowOf s (type_id.Outside name) = Unit {0}

-- each type of the list is a row that there is, and what a coded type names has a number
pub record IsNumbered (s : Assemblies) : Type 0 where
  pub types : (k : ℕ) (id : TypeId) → slice_get (types_of s) k ≡ Some id → IsRowOf s id
  pub named : (a coded : ℕ) (id : TypeId) → named_id s a coded ≡ Some id → is_some (number_of s id) ≡ true

-- a member of the list is a row that there is, or stands in a MemberRef row that says its types and is of a type that has a number
pub record IsOutside (s : Assemblies) (is_field : Bool) (m : OutsideMember) : Type 0 where
  pub kind : m.shape.is_field ≡ is_field
  pub at : Cell
  pub found : outside_row s m ≡ Some at
  pub blob_kind : is_field_blob (blob (assembly_at s at.0) MEMBER_REF at.1 2) ≡ is_field
  pub owner : is_some (number_of s (type_id.Outside m.owner)) ≡ true

abbrev pub IsMember : Assemblies → Bool → MemberId → Type 0
IsMember s is_field (id.Row a row) = (1 ≤ row) × (row ≤ count_in (assembly_at s a) (member_table is_field))
IsMember s is_field (id.Outside m) = IsOutside s is_field m

-- each row of a member, each member that a reference names, each owner and each type around another has a number
pub record HasPlaces (s : Assemblies) : Type 0 where
  pub ids : (is_field : Bool) (k : ℕ) (m : MemberId) → slice_get (member_ids s is_field) k ≡ Some m → IsMember s is_field m
  pub members : (is_field : Bool) (a row : ℕ) → 1 ≤ row → row ≤ count_in (assembly_at s a) (member_table is_field) → is_some (member_number s is_field (id.Row a row)) ≡ true
  pub found : (a row : ℕ) (f : Found) → 1 ≤ row → row ≤ count_in (assembly_at s a) MEMBER_REF → member s a row ≡ named.InSet f → is_some (member_number s f.is_field (id.Row f.assembly f.row)) ≡ true
  pub outside : (a row : ℕ) (m : OutsideMember) → 1 ≤ row → row ≤ count_in (assembly_at s a) MEMBER_REF → member s a row ≡ named.Outside m → is_some (member_number s m.shape.is_field (id.Outside m)) ≡ true
  pub owners : (is_field : Bool) (a k row : ℕ) → row_owner (assembly_at s a) is_field k ≡ Some row → is_some ((coded_in s a).number (row * 4)) ≡ true
  pub around : (a row k : ℕ) → enclosing (assembly_at s a) row ≡ Some k → is_some (number_of s (type_id.Row a k)) ≡ true
