-- Which types of a set are structs, as a list by number (own).
use Rattle.std.specs.Prelude.{◌≡◌, ℕ, Bool, false, List, get_or, slice_get, Option, Some, None, if◌then◌else◌}
use Rattle.cil_base.specs.declared.tables.TheConstants.{TYPE_DEF}
use Rattle.cil_model.specs.declared.program.Kind.TheVariants.{Interface}
use Rattle.set_rows.specs.Sets.{Assemblies}
use Rattle.set_rows.specs.Sets.{Assembly, cell}
use Rattle.set_types.specs.SignatureTypes.{Coded}
use Rattle.set_types.specs.CodedTypes.{coded_of}
use Rattle.set_program.specs.Kinds.{is_interface, kind_by_base}
use Rattle.set_program.specs.TypeRules.{is_struct, is_struct_kind}
use Rattle.members.specs.declared.assembly_members.AssemblyMembers.{AssemblyMembers}
use Rattle.members.specs.declared.set_type.SetType.{SetType}
use Rattle.member_table.specs.Environments.{coded_ty_at}

pub record AreStructs (s : Assemblies) (flags : List Bool) : Type 0 where
  pub items : (k : ℕ) → get_or flags k false ≡ is_struct s k

-- whether a TypeDef row is a struct
abbrev pub is_struct_in : Assembly → Coded → ℕ → Bool
is_struct_in x c row = is_struct_kind (if is_interface (cell x TYPE_DEF row 0) then Interface else kind_by_base (coded_ty_at c (cell x TYPE_DEF row 3)))

abbrev pub is_struct_or : ℕ → Option AssemblyMembers → Bool
is_struct_or row None = false
is_struct_or row (Some m) = is_struct_in m.rows (coded_of m.coded) row

abbrev pub is_struct_of : List AssemblyMembers → SetType → Bool
is_struct_of assemblies t = is_struct_or t.row (slice_get assemblies t.assembly)
