-- What the TypeRef rows of an assembly name, as a list by row from 0 (ECMA-335, II.22.38).
use Rattle.std.specs.Prelude.{◌≡◌, ℕ, ◌-◌, ◌==◌, if◌then◌else◌, List, get_or, map, Option, Some, None}
use Rattle.set_names.specs.Names.{Name}
use Rattle.set_rows.specs.Sets.{Assemblies, assembly_at, rows_in}
use Rattle.set_program.specs.declared.identity.TypeId.{TypeId}
use Rattle.set_program.specs.References.{reference}
use Rattle.set_program.specs.Attributes.{name_of}
use Rattle.cil_base.specs.declared.tables.TheConstants.{TYPE_REF}

abbrev pub AreReferences : Assemblies → ℕ → List (Option TypeId) → Type 0
AreReferences s a references = references ≡ map (reference s a) (rows_in (assembly_at s a) TYPE_REF)

-- what a row names
abbrev pub reference_in : List (Option TypeId) → ℕ → Option TypeId
reference_in references row = if row == 0 then None else get_or references (row - 1) None

abbrev pub id_name : Assemblies → TypeId → Option Name
id_name s id = name_of s (Some id)
