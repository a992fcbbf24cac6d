-- What stays of signatures, members and descriptions where rows are appended to TARGET's tables (own).
use Rattle.std.specs.Prelude.{◌≡◌, ℕ, ◌<◌, ◌≤◌, length, Bool, true, false, is_none, slice_get, Some, List, [], ◌++◌}
use Rattle.cil_base.specs.declared.tables.TheConstants.{MEMBER_REF}
use Rattle.cil_base.specs.declared.token.Token.{Token}
use Rattle.cil_model.specs.declared.program.Program.{Program}
use Rattle.cil_semantics.specs.Lookups.{type_of, field_of, method_of}
use Rattle.cil_semantics.specs.Tokens.{meaning_of}
use Rattle.cli_sigs.specs.declared.types.SigTy.{SigTy}
use Rattle.set_rows.specs.Sets.{Assemblies, assembly_at, count_in}
use Rattle.set_types.specs.SignatureTypes.{Coded, ty_of}
use Rattle.set_signatures.specs.Spelling.{spelled}
use Rattle.set_program.specs.declared.identity.TypeId.{TypeId}
use Rattle.set_program.specs.Environment.{types_of, coded_in, ty_at}
use Rattle.members.specs.MemberRows.{member_table, row_shape}
use Rattle.member_table.specs.declared.named.MemberId.{MemberId}
use Rattle.member_table.specs.Members.{member}
use Rattle.member_table.specs.Numbers.{member_ids}
use Rattle.member_table.specs.Environments.{arguments_within}
use Rattle.machine_laws.specs.Growth.{KeptType, KeptField, KeptMethod}
use Rattle.descriptions.specs.Descriptions.{type_desc, field_desc, method_desc}
use Rattle.set_growth.specs.Kept.{Stays}

-- coded types lead where they led
pub record ExtendsCoded (c c' : Coded) : Type 0 where
  pub named : (coded : ℕ) → Stays (c.named coded) (c'.named coded)
  pub number : (coded : ℕ) → Stays (c.number coded) (c'.number coded)
  pub spec : (row : ℕ) → Stays (c.spec row) (c'.spec row)

-- a type in a signature keeps its numbers, its type and its arguments
pub record KeepsSignature (c c' : Coded) (t : SigTy) : Type 0 where
  pub numbers : (args : List (List ℕ)) → spelled c' args t ≡ spelled c args t
  pub ty : ty_of c' t ≡ ty_of c t
  pub arguments : arguments_within c' 1000 t ≡ arguments_within c 1000 t

-- a type that is read, all of whose coded types lead somewhere
abbrev pub KeepsSignatures : Coded → Coded → Type 0
KeepsSignatures c c' = (t : SigTy) → is_none (spelled c [] t) ≡ false → KeepsSignature c c' t

-- members of old rows: what they are compared by, what references name, and their numbers
pub record KeepsMembers (s s' : Assemblies) : Type 0 where
  pub coded : (a : ℕ) → ExtendsCoded (coded_in s a) (coded_in s' a)
  pub types : (a coded : ℕ) → Stays (ty_at s a coded) (ty_at s' a coded)
  pub shapes : (is_field : Bool) (a row : ℕ) → 1 ≤ row → row ≤ count_in (assembly_at s a) (member_table is_field) → (args : List (List ℕ)) → row_shape (assembly_at s' a) (coded_in s' a) args is_field row ≡ row_shape (assembly_at s a) (coded_in s a) args is_field row
  pub named : (a row : ℕ) → 1 ≤ row → row ≤ count_in (assembly_at s a) MEMBER_REF → member s' a row ≡ member s a row
  pub ids : (is_field : Bool) → (more : List MemberId) × (member_ids s' is_field ≡ member_ids s is_field ++ more)

-- descriptions of old types, fields and methods
pub record KeepsDescriptions (s s' : Assemblies) : Type 0 where
  pub types : (k : ℕ) (t : TypeId) → slice_get (types_of s) k ≡ Some t → KeptType (type_desc s t) (type_desc s' t)
  pub fields : (k : ℕ) (m : MemberId) → slice_get (member_ids s true) k ≡ Some m → KeptField (field_desc s m) (field_desc s' m)
  pub methods : (k : ℕ) (m : MemberId) → slice_get (member_ids s false) k ≡ Some m → KeptMethod (method_desc s m) (method_desc s' m)

-- the program: descriptions at old numbers but for bodies and access, and what old tokens mean; what was appended stands behind
pub record KeepsProgram (p q : Program) : Type 0 where
  pub more_types : length p.types ≤ length q.types
  pub more_fields : length p.fields ≤ length q.fields
  pub more_methods : length p.methods ≤ length q.methods
  pub types : (j : ℕ) → j < length p.types → KeptType (type_of p j) (type_of q j)
  pub fields : (j : ℕ) → j < length p.fields → KeptField (field_of p j) (field_of q j)
  pub methods : (j : ℕ) → j < length p.methods → KeptMethod (method_of p j) (method_of q j)
  pub tokens : (a : ℕ) (t : Token) → Stays (meaning_of p a t) (meaning_of q a t)
