-- The types that references and forwarders lead to (ECMA-335, II.22.14, II.22.38).
use Rattle.std.specs.Prelude.{ℕ, zero, suc, Bool, true, false, ◌==◌, ◌&&◌, bytes_eq, if◌then◌else◌, List, [], ◌∷◌, reverse, length, find, Option, Some, None, option_and_then}
use Rattle.set_program.specs.declared.identity.TypeId.{TypeId}
use Rattle.set_program.specs.declared.identity.TypeId.TheVariants.{Row, Outside}
use Rattle.set_names.specs.Names.{Name}
use Rattle.set_rows.specs.Sets.{Assembly, Assemblies, assembly_at, assembly_named, count_in, rows_in, cell, text}
use Rattle.set_types.specs.CodedIndexes.{tag, row_of}
use Rattle.set_names.specs.Paths.{path_within, if_row}
use Rattle.set_program.specs.TypeNames.{joined, own_name, inner_name, full_name, type_named}
use Rattle.cil_base.specs.declared.tables.TheConstants.{ASSEMBLY_REF, EXPORTED_TYPE, TYPE_REF}

-- ---- types by name

abbrev pub if_found : ℕ → Option ℕ → Option TypeId
if_found a None = None
if_found a (Some row) = Some (Row a row)

-- the type of this name inside another
unfoldable pub inside : Assemblies → Name → TypeId → Option TypeId
inside s name (Outside outer) = Some (Outside (inner_name outer name))
inside s name (Row a row) =
    option_and_then (λ outer. if_found a (type_named (assembly_at s a) (inner_name outer name))) (full_name (assembly_at s a) row)

-- the name of an ExportedType row, without the types around it
abbrev pub exported_name : Assembly → ℕ → Name
exported_name x row = joined (text x EXPORTED_TYPE row 3) (text x EXPORTED_TYPE row 2)

-- the first ExportedType row of this name that has no type around it
unfoldable pub exported_named : Assembly → Name → Option ℕ
exported_named x name = find (λ e. bytes_eq name (exported_name x e) && (if tag (cell x EXPORTED_TYPE e 4) == 2 then row_of (cell x EXPORTED_TYPE e 4) == 0 else true)) (rows_in x EXPORTED_TYPE)

-- what an assembly of the set has, where there is one; else the type is outside
abbrev pub in_named : (ℕ → Option TypeId) → Name → Option ℕ → Option TypeId
in_named go name None = Some (Outside name)
in_named go name (Some a) = go a

-- by an Implementation, whether it is an AssemblyRef row: a type of another file is outside
abbrev pub forwarded : (ℕ → Option TypeId) → Assemblies → Name → Assembly → ℕ → Bool → Option TypeId
forwarded go s name x implementation true = in_named go name (assembly_named s (text x ASSEMBLY_REF (row_of implementation) 6))
forwarded go s name x implementation false = Some (Outside name)

abbrev pub by_forwarder : (ℕ → Option TypeId) → Assemblies → Name → Assembly → Option ℕ → Option TypeId
by_forwarder go s name x None = None
by_forwarder go s name x (Some e) = forwarded go s name x (cell x EXPORTED_TYPE e 4) (tag (cell x EXPORTED_TYPE e 4) == 1)

abbrev pub own_or_forwarded : (ℕ → Option TypeId) → Assemblies → Name → ℕ → Assembly → Option ℕ → Option TypeId
own_or_forwarded go s name a x (Some row) = Some (Row a row)
own_or_forwarded go s name a x None = by_forwarder go s name x (exported_named x name)

-- what an assembly says of a name
abbrev pub says : (ℕ → Option TypeId) → Assemblies → Name → ℕ → Assembly → Option TypeId
says go s name a x = own_or_forwarded go s name a x (type_named x name)

-- A name that an assembly's TypeDef rows don't have may be forwarded. So many assemblies are asked: more would be a circle.
unfoldable pub found_within : Assemblies → Name → ℕ → ℕ → Option TypeId
found_within s name zero a = None
found_within s name (suc n) a = says (found_within s name n) s name a (assembly_at s a)

-- the type of this name in an assembly of the set
abbrev pub found_in : Assemblies → Name → ℕ → Option TypeId
found_in s name a = found_within s name (length s) a

-- ---- TypeRef rows

-- the TypeRef row that is the scope of another
unfoldable pub outer_reference : Assembly → ℕ → Option ℕ
outer_reference x row = if tag (cell x TYPE_REF row 0) == 3 then if_row (row_of (cell x TYPE_REF row 0)) else None

-- the type of a name by a scope: an AssemblyRef row, or the assembly's own module; another module, or none, is outside
abbrev pub by_scope : Assemblies → ℕ → Assembly → Name → ℕ → Option TypeId
by_scope s a x name scope =
    if tag scope == 2 then in_named (found_in s name) name (assembly_named s (text x ASSEMBLY_REF (row_of scope) 6))
    else if scope == 4 then found_in s name a
    else Some (Outside name)

-- the types from the outermost on, one inside the other
abbrev pub along : Assemblies → Assembly → Option TypeId → List ℕ → Option TypeId
along s x found [] = found
along s x found (row ∷ rows) = along s x (option_and_then (inside s (own_name x TYPE_REF row)) found) rows

abbrev pub from_outermost : Assemblies → ℕ → Assembly → List ℕ → Option TypeId
from_outermost s a x [] = None
from_outermost s a x (row ∷ rows) = along s x (by_scope s a x (own_name x TYPE_REF row) (cell x TYPE_REF row 0)) rows

abbrev pub by_path : Assemblies → ℕ → Assembly → Option (List ℕ) → Option TypeId
by_path s a x None = None
by_path s a x (Some path) = from_outermost s a x (reverse path)

abbrev pub reference_in : Assemblies → ℕ → Assembly → ℕ → Option TypeId
reference_in s a x row = by_path s a x (path_within (outer_reference x) (count_in x TYPE_REF) row)

-- The type that a TypeRef row names. None where its scopes lead into a circle, or where a type that should be in the set isn't there.
unfoldable pub reference : Assemblies → ℕ → ℕ → Option TypeId
reference s a row = reference_in s a (assembly_at s a) row
