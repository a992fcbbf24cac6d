-- What a MemberRef row names (ECMA-335, II.22.25): a member of a type of the set or of its nearest base that has it, or a member outside.
use Rattle.std.specs.Prelude.{ℕ, zero, suc, ◌+◌, ◌*◌, ◌/◌, ◌%◌, ◌==◌, ◌||◌, Bool, false, if◌then◌else◌, codes, List, [], ◌∷◌, length, slice_get, Option, Some, None, option_map, option_and_then}
use Rattle.cil_base.specs.declared.tables.TheConstants.{MEMBER_REF, METHOD_DEF}
use Rattle.cil_model.specs.declared.ty.Ty.{Ty, out-Ty}
use Rattle.cil_model.specs.declared.ty.Ty.TheOpen.{Ty-F}
use Rattle.cil_semantics.specs.Core.{prim_name}
use Rattle.cil_semantics.specs.Lookups.{in_set}
use Rattle.set_names.specs.Names.{Name}
use Rattle.set_rows.specs.Sets.{Assembly, Assemblies, cell, text, blob}
use Rattle.set_rows.specs.Owners.{owner}
use Rattle.set_types.specs.SignatureTypes.{Coded}
use Rattle.set_signatures.specs.Shapes.{shape_of, is_same}
use Rattle.set_signatures.specs.declared.shape.Shape.{Shape}
use Rattle.members.specs.Bases.{arguments, onwards, here_or}
use Rattle.members.specs.MemberRows.{declared}
use Rattle.members.specs.declared.set_type.SetType.{SetType}
use Rattle.members.specs.declared.outside_member.OutsideMember.{OutsideMember}
use Rattle.member_table.specs.declared.named.Named.{Named}
use Rattle.member_table.specs.declared.named.Named.TheVariants as named
use Rattle.member_table.specs.declared.named.Found.{Found}
use Rattle.member_table.specs.Environments.{Environment, coded_ty_at, environment, seen_within}

-- ---- a member in the nearest of a type and its bases

-- the first member of a type with this name and signature, where these stand for the parameters of the type
abbrev pub declared_by : Environment → List (List ℕ) → Shape → SetType → Option ℕ
declared_by e args x t = declared (e.assembly t.assembly) (e.coded t.assembly) args (is_same x) x.is_field t.row

abbrev pub by_type : (List (List ℕ) → ℕ → Option (ℕ × ℕ)) → Environment → List (List ℕ) → Shape → ℕ → Option SetType → Option (ℕ × ℕ)
by_type go e args x k None = None
by_type go e args x k (Some t) = if e.has t.assembly then here_or k (onwards go (arguments (e.coded t.assembly) args t.args) t.base) (declared_by e args x t) else None

-- The number of the type, and the row: in the nearest of a type and its bases, at most so many. Members of a base have the arguments of the base in their signatures.
unfoldable pub found_within : Environment → Shape → ℕ → List (List ℕ) → ℕ → Option (ℕ × ℕ)
found_within e x zero args k = None
found_within e x (suc n) args k = by_type (found_within e x n) e args x k (slice_get e.types k)

-- ---- the type of a MemberRef row

-- a MemberRefParent index of a TypeSpec, TypeDef or TypeRef row as a TypeDefOrRef index (II.24.2.6)
abbrev pub parent_index : ℕ → ℕ
parent_index parent = if parent % 8 == 4 then parent / 8 * 4 + 2 else parent / 8 * 4 + parent % 8

abbrev pub is_type : ℕ → Bool
is_type parent = (parent % 8 == 0) || ((parent % 8 == 1) || (parent % 8 == 4))

-- none where its parent is a method, another module, or nothing
abbrev pub parent_type : Assembly → Coded → ℕ → Option Ty
parent_type x c row =
    let parent = cell x MEMBER_REF row 0 in
    if is_type parent then coded_ty_at c (parent_index parent) else None

-- the name of the type that an outside member is of: of arrays the class of all, and one name for all types that have none
abbrev pub layer_name : Ty-F Ty → Name
layer_name (Ty-F.Outside name value) = name
layer_name (Ty-F.Prim b) = prim_name b
layer_name (Ty-F.Array item) = codes "System.Array"
layer_name _ = codes "<Module>"

abbrev pub owner_name : Option Ty → Name
owner_name None = codes "<Module>"
owner_name (Some t) = layer_name (out-Ty t)

-- ---- what a row names

abbrev pub found_or_missing : Option Found → Named
found_or_missing None = named.Missing
found_or_missing (Some f) = named.InSet f

abbrev pub outside_or_missing : Option Ty → Option Shape → Named
outside_or_missing t None = named.Missing
outside_or_missing t (Some x) = named.Outside (record { owner = owner_name t; shape = x })

-- the row of a type, seen as this type
abbrev pub found_in_type : Bool → ℕ → Option Ty → Option SetType → Option Found
found_in_type is_field row (Some t) (Some d) = Some (record { owner = t; is_field = is_field; assembly = d.assembly; row = row })
found_in_type is_field row _ _ = None

abbrev pub found_at : Environment → Bool → Ty → ℕ × ℕ → Option Found
found_at e is_field t f = found_in_type is_field f.1 (seen_within e f.0 (length e.types) t) (slice_get e.types f.0)

-- a type of the set, by its number
abbrev pub found_from : Environment → Ty → ℕ → Shape → Option Found
found_from e t k x = option_and_then (found_at e x.is_field t) (found_within e x (length e.types) [] k)

abbrev pub of_type : Environment → Option Shape → Ty → Option (ℕ × List Ty) → Named
of_type e x t None = outside_or_missing (Some t) x
of_type e x t (Some d) = found_or_missing (option_and_then (found_from e t d.0) x)

abbrev pub of_parent : Environment → Option Shape → Option Ty → Named
of_parent e x None = outside_or_missing None x
of_parent e x (Some t) = of_type e x t (in_set (out-Ty t))

abbrev pub method_found : ℕ → ℕ → Ty → Found
method_found a row t = record { owner = t; is_field = false; assembly = a; row = row }

-- the MethodDef row that a reference with further arguments names (II.22.25)
abbrev pub of_method : ℕ → Assembly → Coded → ℕ → Named
of_method a x c row = found_or_missing (option_map (method_found a row) (option_and_then (λ k. c.named (k * 4)) (owner x 5 METHOD_DEF row)))

abbrev pub reference_shape : Assembly → Coded → ℕ → Option Shape
reference_shape x c row = shape_of c [] (text x MEMBER_REF row 1) (blob x MEMBER_REF row 2)

abbrev pub of_reference : Environment → ℕ → Assembly → Coded → ℕ → Named
of_reference e a x c row =
    let parent = cell x MEMBER_REF row 0 in
    if parent % 8 == 3 then of_method a x c (parent / 8) else of_parent e (reference_shape x c row) (parent_type x c row)

unfoldable pub member_in : Environment → ℕ → ℕ → Named
member_in e a row = if e.has a then of_reference e a (e.assembly a) (e.coded a) row else named.Missing

-- what a MemberRef row of a set names
abbrev pub member : Assemblies → ℕ → ℕ → Named
member s a row = member_in (environment s) a row
