-- The structs in the instance fields of a type, by the rows of its assembly (ECMA-335, II.22.15, II.22.37).
use Rattle.std.specs.Prelude.{ℕ, List, [], filter, flat_map, slice_get, Option, Some, None, option_map, option_to_list, if◌then◌else◌}
use Rattle.cil_base.specs.declared.tables.TheConstants.{FIELD}
use Rattle.set_rows.specs.Sets.{Assembly, Assemblies, cell, blob, rows_in}
use Rattle.set_rows.specs.Owners.{owns}
use Rattle.set_types.specs.SignatureTypes.{Coded, ty_of}
use Rattle.set_types.specs.CodedTypes.{coded_of}
use Rattle.set_signatures.specs.Blobs.{field_sig}
use Rattle.set_program.specs.TypeRules.{is_struct, is_static_flag, structs_in}
use Rattle.members.specs.declared.assembly_members.AssemblyMembers.{AssemblyMembers}
use Rattle.members.specs.declared.set_type.SetType.{SetType}

-- those that a field's signature names
abbrev pub blob_structs : Assemblies → Coded → List ℕ → List ℕ
blob_structs s c bytes = flat_map (structs_in s) (option_to_list (option_map (ty_of c) (field_sig bytes)))

-- those of a Field row, if it isn't static
abbrev pub field_row_structs : Assemblies → Assembly → Coded → ℕ → List ℕ
field_row_structs s x c row = if is_static_flag (cell x FIELD row 0) then [] else blob_structs s c (blob x FIELD row 2)

-- those of the Field rows that a TypeDef row owns
abbrev pub within_row : Assemblies → Assembly → Coded → ℕ → List ℕ
within_row s x c row = flat_map (field_row_structs s x c) (filter (λ f. owns x 4 FIELD f row) (rows_in x FIELD))

abbrev pub within_or : Assemblies → ℕ → Option AssemblyMembers → List ℕ
within_or s row None = []
within_or s row (Some m) = within_row s m.rows (coded_of m.coded) row

abbrev pub within_type : Assemblies → List AssemblyMembers → SetType → List ℕ
within_type s assemblies t = within_or s t.row (slice_get assemblies t.assembly)

-- those of a number, where it is a struct's
abbrev pub within_number : Assemblies → List AssemblyMembers → ℕ → Option SetType → List ℕ
within_number s assemblies k None = []
within_number s assemblies k (Some t) = if is_struct s k then within_type s assemblies t else []

abbrev pub within_at : Assemblies → List AssemblyMembers → List SetType → ℕ → List ℕ
within_at s assemblies types k = within_number s assemblies k (slice_get types k)
