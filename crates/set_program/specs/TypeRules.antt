-- The rules on the names of a set and on circles of its types, with their places (ECMA-335, II.10.3, II.22.14, II.22.32, II.22.37; places and limits: own).
use Rattle.std.specs.Prelude.{ℕ, ◌/◌, ◌%◌, ◌-◌, ◌==◌, ◌&&◌, ◌||◌, bytes_eq, Bool, true, false, is_none, if◌then◌else◌, List, [], ◌∷◌, ◌++◌, map, length, filter, flat_map, reverse, option_to_list, Option, Some, None, option_map, option_and_then, slice_get, codes}
use Rattle.std.specs.List.{range_with_len}
use Rattle.cil_base.specs.declared.tables.TheConstants.{ASSEMBLY, ASSEMBLY_REF, CUSTOM_ATTRIBUTE, EXPORTED_TYPE, FIELD, INTERFACE_IMPL, TYPE_DEF, TYPE_REF}
use Rattle.cil_base.specs.declared.rule.Rule.{Rule}
use Rattle.cil_base.specs.declared.rule.Rule.TheVariants.{N1, N3, N4}
use Rattle.cil_base.specs.Refusals.{Test, refusal}
use Rattle.cil_model.specs.declared.ty.Ty.{Ty, out-Ty, Prim, Known, Outside, Array', ByRef', Var, MVar, Opaque, Inst', Row_of-Ty, end_of-Ty, more_of-Ty}
use Rattle.cil_model.specs.declared.ty.Ty.TheOpen.{Ty-F}
use Rattle.cil_model.specs.declared.program.Kind.{Kind}
use Rattle.cil_model.specs.declared.program.Kind.TheVariants.{Struct}
use Rattle.cil_semantics.specs.Core.{core_classes, prim_names}
use Rattle.set_names.specs.Names.{Name, is_name}
use Rattle.set_names.specs.Paths.{if_row, path_within}
use Rattle.set_names.specs.Cycles.{any, reaches, is_deep}
use Rattle.set_types.specs.CodedIndexes.{tag, row_of}
use Rattle.set_types.specs.SignatureTypes.{ty_of}
use Rattle.set_signatures.specs.Blobs.{field_sig}
use Rattle.set_rows.specs.Sets.{Assembly, Assemblies, assembly_at, assembly_name, assembly_named, count_in, rows_in, cell, text, blob}
use Rattle.set_rows.specs.Owners.{owns}
use Rattle.set_program.specs.declared.identity.TypeId.{TypeId}
use Rattle.set_program.specs.declared.identity.TypeId.TheVariants as id
use Rattle.set_program.specs.TypeNames.{full_name, enclosing}
use Rattle.set_program.specs.References.{reference, in_named, found_in, exported_name}
use Rattle.set_program.specs.Numbering.{Cell}
use Rattle.set_program.specs.Attributes.{names_type, attribute_type, inside_all}
use Rattle.set_program.specs.Environment.{types_of, number_of, coded_in, ty_at}
use Rattle.set_program.specs.Kinds.{kind_at}

-- ---- ExportedType rows (II.22.14)

-- the ExportedType row that is the implementation of another
unfoldable pub outer_export : Assembly → ℕ → Option ℕ
outer_export x e = if tag (cell x EXPORTED_TYPE e 4) == 2 then if_row (row_of (cell x EXPORTED_TYPE e 4)) else None

-- the type of a name by an Implementation: an AssemblyRef row; another file, or none, is outside
abbrev pub by_implementation : Assemblies → Assembly → Name → ℕ → Option TypeId
by_implementation s x name implementation =
    if tag implementation == 1 then in_named (found_in s name) name (assembly_named s (text x ASSEMBLY_REF (row_of implementation) 6))
    else Some (id.Outside name)

abbrev pub from_outermost_export : Assemblies → Assembly → List ℕ → Option TypeId
from_outermost_export s x [] = None
from_outermost_export s x (e ∷ es) = inside_all s (by_implementation s x (exported_name x e) (cell x EXPORTED_TYPE e 4)) (map (exported_name x) es)

abbrev pub by_export_path : Assemblies → Assembly → Option (List ℕ) → Option TypeId
by_export_path s x None = None
by_export_path s x (Some path) = from_outermost_export s x (reverse path)

-- The type that an ExportedType row names. None where implementations lead into a circle, or where the type isn't there.
unfoldable pub exported : Assemblies → ℕ → ℕ → Option TypeId
exported s a e = by_export_path s (assembly_at s a) (path_within (outer_export (assembly_at s a)) (count_in (assembly_at s a) EXPORTED_TYPE) e)

-- ---- circles of types, by their numbers

abbrev pub defined_at : TypeId → Option Cell
defined_at (id.Row a row) = Some (a, row)
defined_at (id.Outside name) = None

-- the TypeDef row of a number
abbrev pub row_of_number : Assemblies → ℕ → Option Cell
row_of_number s k = option_and_then defined_at (slice_get (types_of s) k)

abbrev pub is_on_cycle : Assemblies → (ℕ → List ℕ) → ℕ → Bool
is_on_cycle s next k = reaches next (length (types_of s)) k k

-- to which types a base or an interface leads: to its definition, and a type parameter to the type itself that has it
abbrev pub layer_leads_to : List ℕ → Ty-F Ty → List ℕ
layer_leads_to itself (Ty-F.Known k) = k ∷ []
layer_leads_to itself (Ty-F.Inst k args) = k ∷ []
layer_leads_to itself (Ty-F.Var k) = itself
layer_leads_to itself (Ty-F.MVar k) = itself
layer_leads_to itself _ = []

abbrev pub leads_to : List ℕ → Option Ty → List ℕ
leads_to itself None = []
leads_to itself (Some t) = layer_leads_to itself (out-Ty t)

-- the number of a row, if it is there
abbrev pub own_number : Assemblies → ℕ → ℕ → List ℕ
own_number s a row = option_to_list (number_of s (id.Row a row))

-- the base and the interfaces of a type, by what they lead to
abbrev pub above : Assemblies → ℕ → List ℕ
above s k =
    flat_map
    (λ (r : Cell). leads_to (own_number s r.0 r.1) (ty_at s r.0 (cell (assembly_at s r.0) TYPE_DEF r.1 3))
    ++ flat_map (λ i. leads_to (own_number s r.0 r.1) (ty_at s r.0 (cell (assembly_at s r.0) INTERFACE_IMPL i 1))) (filter (λ i. cell (assembly_at s r.0) INTERFACE_IMPL i 0 == r.1) (rows_in (assembly_at s r.0) INTERFACE_IMPL)))
    (option_to_list (row_of_number s k))

-- the type around it
abbrev pub around : Assemblies → ℕ → List ℕ
around s k = flat_map (λ (r : Cell). option_to_list (option_and_then (λ o. number_of s (id.Row r.0 o)) (enclosing (assembly_at s r.0) r.1))) (option_to_list (row_of_number s k))

abbrev pub is_struct_kind : Kind → Bool
is_struct_kind Struct = true
is_struct_kind _ = false

abbrev pub is_struct : Assemblies → ℕ → Bool
is_struct s k = any (λ (r : Cell). is_struct_kind (kind_at s r.0 r.1)) (option_to_list (row_of_number s k))

-- the structs that a type names, as itself or among the arguments of a struct
module _ (s : Assemblies) where
  abbrev mutual
    pub structs_in : Ty → List ℕ
    structs_in (Prim b) = []
    structs_in (Known k) = if is_struct s k then k ∷ [] else []
    structs_in (Outside name value) = []
    structs_in (Array' p parts) = []
    structs_in (ByRef' p parts) = []
    structs_in (Var k) = []
    structs_in (MVar k) = []
    structs_in Opaque = []
    structs_in (Inst' k shape parts) = if is_struct s k then k ∷ structs_of parts else []

    pub structs_of : {m : _} → Row_of-Ty m → List ℕ
    structs_of end_of-Ty = []
    structs_of (more_of-Ty t rest) = structs_in t ++ structs_of rest

-- the bit that marks a static field or method (II.23.1.5, II.23.1.10)
abbrev pub is_static_flag : ℕ → Bool
is_static_flag flags = flags / 0x10 % 2 == 1

-- the type of a Field row
abbrev pub field_ty : Assemblies → ℕ → ℕ → Option Ty
field_ty s a row = option_map (ty_of (coded_in s a)) (field_sig (blob (assembly_at s a) FIELD row 2))

abbrev pub field_structs : Assemblies → ℕ → ℕ → List ℕ
field_structs s a row = if is_static_flag (cell (assembly_at s a) FIELD row 0) then [] else flat_map (structs_in s) (option_to_list (field_ty s a row))

-- from a struct to those of its instance fields
abbrev pub within : Assemblies → ℕ → List ℕ
within s k = if is_struct s k then flat_map (λ (r : Cell). flat_map (field_structs s r.0) (filter (λ f. owns (assembly_at s r.0) 4 FIELD f r.1) (rows_in (assembly_at s r.0) FIELD))) (option_to_list (row_of_number s k)) else []

-- structs stand at most so deep in structs
abbrev pub deepest : ℕ
deepest = 1000

abbrev pub is_entangled : Assemblies → ℕ → Bool
is_entangled s k = is_on_cycle s (above s) k || (is_on_cycle s (around s) k || (is_on_cycle s (within s) k || is_deep (within s) deepest k))

-- ---- names that are there already

abbrev pub is_core_name : Name → Bool
is_core_name name =
    bytes_eq name (codes "System.IDisposable") || (bytes_eq name (codes "System.Diagnostics.Contracts.Contract")
    || (any (λ (c : Name × Ty). bytes_eq name c.0) core_classes || any (λ (p : ℕ × Name). bytes_eq name p.1) prim_names))

-- the test holds of a row before
abbrev pub is_taken : (ℕ → Bool) → ℕ → Bool
is_taken test row = any test (range_with_len 1 (row - 1))

abbrev pub name_is_taken : Assembly → Option Name → ℕ → Bool
name_is_taken x None row = false
name_is_taken x (Some name) row = is_core_name name || is_taken (λ k. is_name name (full_name x k)) row

-- an assembly before has its name
abbrev pub assembly_is_taken : Assemblies → ℕ → Bool
assembly_is_taken s a = any (λ b. bytes_eq (assembly_name (assembly_at s b)) (assembly_name (assembly_at s a))) (range_with_len 0 a)

-- ---- the tests of a row, by rising rule

abbrev pub test : Rule → ℕ → ℕ → ℕ → Bool → Test
test rule a table row fails = record { refusal = refusal rule (record { assembly = a; table = table; row = row }) 0; fails = fails }

-- of those that name types alone
abbrev pub type_tests : Assemblies → ℕ → ℕ → ℕ → List Test
type_tests s a table row =
    let x = assembly_at s a in
    if table == TYPE_REF then test N1 a TYPE_REF row (is_none (reference s a row)) ∷ []
    else if table == TYPE_DEF then
    test N3 a TYPE_DEF row (any (is_entangled s) (option_to_list (number_of s (id.Row a row))))
    ∷ test N4 a TYPE_DEF row (name_is_taken x (full_name x row) row) ∷ []
    else if table == CUSTOM_ATTRIBUTE then test N1 a CUSTOM_ATTRIBUTE row (names_type s a row && is_none (attribute_type s a row)) ∷ []
    else if table == ASSEMBLY then test N4 a ASSEMBLY row (assembly_is_taken s a) ∷ []
    else if table == EXPORTED_TYPE then test N1 a EXPORTED_TYPE row (is_none (exported s a row)) ∷ []
    else []
