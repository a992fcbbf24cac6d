-- The rules on the members that rows are or name, and on arguments and parameters in signatures, with their places (ECMA-335, II.9.2, II.22.15, II.22.20, II.22.25 to II.22.29; order and places: own).
use Rattle.std.specs.Prelude.{ℕ, ◌+◌, ◌*◌, ◌/◌, ◌%◌, ◌==◌, ◌&&◌, ◌||◌, max, nat_lt, nat_le, Bool, true, false, not, is_none, if◌then◌else◌, List, [], ◌∷◌, ◌++◌, map, length, filter, find, Option, Some, None, option_map, option_and_then}
use Rattle.cil_base.specs.declared.tables.TheConstants.{FIELD, GENERIC_PARAM, GENERIC_PARAM_CONSTRAINT, INTERFACE_IMPL, MEMBER_REF, METHOD_DEF, METHOD_IMPL, METHOD_SPEC, PROPERTY, PROPERTY_MAP, STAND_ALONE_SIG, TYPE_DEF, TYPE_SPEC}
use Rattle.cil_base.specs.declared.rule.Rule.TheVariants.{N1, N2, N4, N6}
use Rattle.cil_base.specs.Refusals.{Test}
use Rattle.cli_sigs.specs.declared.types.SigTy.{SigTy}
use Rattle.set_rows.specs.Sets.{Assembly, Assemblies, assembly_at, count_in, rows_in, cell, blob}
use Rattle.set_types.specs.SignatureTypes.{Coded}
use Rattle.set_types.specs.SignatureRules.{any, isnt_count, miscounts_within, strays_within}
use Rattle.set_signatures.specs.Blobs.{instance_sigs}
use Rattle.set_signatures.specs.Shapes.{is_same}
use Rattle.set_signatures.specs.Spelling.{spelled}
use Rattle.set_signatures.specs.declared.shape.Shape.{Shape}
use Rattle.set_program.specs.declared.identity.TypeId.{TypeId}
use Rattle.set_program.specs.declared.identity.TypeId.TheVariants as id
use Rattle.set_program.specs.Attributes.{named_id}
use Rattle.set_program.specs.Environment.{coded_in, row_types}
use Rattle.set_program.specs.Kinds.{generics}
use Rattle.set_program.specs.TypeRules.{test}
use Rattle.members.specs.MemberRows.{declared, row_owner, row_shape}
use Rattle.member_table.specs.declared.named.Named.{Named}
use Rattle.member_table.specs.declared.named.Named.TheVariants as named
use Rattle.member_table.specs.declared.named.Found.{Found}
use Rattle.member_table.specs.Members.{member}

-- ---- signatures that can't be read, and members that are there already

-- a coded type names no row, or a type nests too deep
abbrev pub isnt_read : Coded → List SigTy → Bool
isnt_read c types = any (λ t. is_none (spelled c [] t)) types

abbrev pub is_before : ℕ → Option ℕ → Bool
is_before row None = false
is_before row (Some k) = nat_lt k row

abbrev pub is_declared_before : Assembly → Coded → ℕ → Option ℕ → Option Shape → Bool
is_declared_before x c row (Some o) (Some y) = is_before row (declared x c [] (is_same y) y.is_field o)
is_declared_before x c row _ _ = false

-- the first member of its type with its name and signature stands before it
abbrev pub member_is_taken : Assembly → Coded → Bool → ℕ → Bool
member_is_taken x c is_field row = is_declared_before x c row (row_owner x is_field row) (row_shape x c [] is_field row)

-- ---- how many parameters there are

-- of the type of the set that a TypeDefOrRef index names
abbrev pub parameters_of : Assemblies → ℕ → ℕ → Option ℕ
parameters_of s a coded = option_and_then count (named_id s a coded)
  where
    count : TypeId → Option ℕ
    count (id.Row b row) = Some (generics (assembly_at s b) (row * 2))
    count (id.Outside name) = None

-- of a TypeDef row, and of a MethodDef row
abbrev pub type_parameters : Assembly → Option ℕ → ℕ
type_parameters x None = 0
type_parameters x (Some row) = generics x (row * 2)

abbrev pub method_parameters : Assembly → ℕ → ℕ
method_parameters x row = generics x (row * 2 + 1)

abbrev pub parameters_around : Assembly → Bool → ℕ → ℕ
parameters_around x is_field row = type_parameters x (row_owner x is_field row)

-- whether a PropertyMap row owns a Property row (II.22.35)
abbrev pub owns_property : Assembly → ℕ → ℕ → Bool
owns_property x k p =
    nat_le (max 1 (cell x PROPERTY_MAP p 1)) k && nat_lt k (if nat_lt p (count_in x PROPERTY_MAP) then cell x PROPERTY_MAP (p + 1) 1 else count_in x PROPERTY + 1)

-- the TypeDef row of a Property row
abbrev pub property_owner : Assembly → ℕ → Option ℕ
property_owner x k = option_map (λ p. cell x PROPERTY_MAP p 0) (find (owns_property x k) (rows_in x PROPERTY_MAP))

-- of the method of the set that a MethodDefOrRef index names
abbrev pub named_parameters : Assemblies → Named → Option ℕ
named_parameters s (named.InSet f) = Some (method_parameters (assembly_at s f.assembly) f.row)
named_parameters s (named.Outside m) = None
named_parameters s named.Missing = None

abbrev pub indexed_parameters : Assemblies → ℕ → ℕ → Option ℕ
indexed_parameters s a coded =
    if coded % 2 == 1 then named_parameters s (member s a (coded / 2))
    else if coded / 2 == 0 then None
    else Some (method_parameters (assembly_at s a) (coded / 2))

abbrev pub count_or_none : Option (List SigTy) → ℕ
count_or_none None = 0
count_or_none (Some ts) = length ts

-- ---- where a TypeSpec row stands as a base, an interface, the type of a member in a MethodImpl row, or a constraint: the parameters of its type and of its method

abbrev pub is_parent : Assembly → ℕ → ℕ → Bool
is_parent x row coded = (coded % 2 == 1) && (cell x MEMBER_REF (coded / 2) 0 == row * 8 + 4)

abbrev pub owner_parameters : Assembly → ℕ → ℕ × ℕ
owner_parameters x owner = if owner % 2 == 0 then (generics x owner, 0) else (parameters_around x false (owner / 2), generics x owner)

abbrev pub contexts : Assembly → ℕ → List (ℕ × ℕ)
contexts x row =
    map (λ r. (generics x (r * 2), 0)) (filter (λ r. cell x TYPE_DEF r 3 == row * 4 + 2) (rows_in x TYPE_DEF))
    ++ (map (λ i. (generics x (cell x INTERFACE_IMPL i 0 * 2), 0)) (filter (λ i. cell x INTERFACE_IMPL i 1 == row * 4 + 2) (rows_in x INTERFACE_IMPL))
    ++ (map (λ i. (generics x (cell x METHOD_IMPL i 0 * 2), 0)) (filter (λ i. is_parent x row (cell x METHOD_IMPL i 1) || is_parent x row (cell x METHOD_IMPL i 2)) (rows_in x METHOD_IMPL))
    ++ map (λ i. owner_parameters x (cell x GENERIC_PARAM (cell x GENERIC_PARAM_CONSTRAINT i 0) 2)) (filter (λ i. cell x GENERIC_PARAM_CONSTRAINT i 1 == row * 4 + 2) (rows_in x GENERIC_PARAM_CONSTRAINT))))

-- ---- N6

-- an instance of a type of the set has a wrong number of arguments
abbrev pub miscounts_at : Assemblies → ℕ → List SigTy → Bool
miscounts_at s a types = any (miscounts_within (parameters_of s a) 1000) types

-- a parameter isn't among n of the type, or m of the method
abbrev pub strays_at : Assemblies → ℕ → ℕ → ℕ → List SigTy → Bool
strays_at s a n m types = any (strays_within (coded_in s a) n m 1000) types

-- the type and its method have such parameters as stand in the signature of a row
abbrev pub is_unfit : Assemblies → ℕ → ℕ → ℕ → List SigTy → Bool
is_unfit s a table row types =
    let x = assembly_at s a in
    if table == FIELD then strays_at s a (parameters_around x true row) 0 types
    else if table == METHOD_DEF then strays_at s a (parameters_around x false row) (method_parameters x row) types
    else if table == PROPERTY then strays_at s a (type_parameters x (property_owner x row)) 0 types
    else if table == TYPE_SPEC then any (λ (n : ℕ × ℕ). strays_at s a n.0 n.1 types) (contexts x row)
    else if table == METHOD_SPEC then isnt_count (count_or_none (instance_sigs (blob x METHOD_SPEC row 1))) (indexed_parameters s a (cell x METHOD_SPEC row 0))
    else false

-- ---- N2 and N4

abbrev pub is_missing : Named → Bool
is_missing named.Missing = true
is_missing (named.InSet f) = false
is_missing (named.Outside m) = false

-- a row of Field or MethodDef that no type owns, or a reference to a member that isn't there
abbrev pub isnt_there : Assemblies → ℕ → ℕ → ℕ → Bool
isnt_there s a table row =
    if table == FIELD then is_none (row_owner (assembly_at s a) true row)
    else if table == METHOD_DEF then is_none (row_owner (assembly_at s a) false row)
    else if table == MEMBER_REF then is_missing (member s a row)
    else false

abbrev pub is_taken_at : Assemblies → ℕ → ℕ → ℕ → Bool
is_taken_at s a table row =
    if table == FIELD then member_is_taken (assembly_at s a) (coded_in s a) true row
    else if table == METHOD_DEF then member_is_taken (assembly_at s a) (coded_in s a) false row
    else false

-- ---- the tests of a row that holds a signature, by rising rule

unfoldable pub member_tests : Assemblies → ℕ → ℕ → ℕ → List Test
member_tests s a table row =
    let types = row_types (assembly_at s a) table row in
    test N1 a table row (isnt_read (coded_in s a) types)
    ∷ test N2 a table row (isnt_there s a table row)
    ∷ test N4 a table row (is_taken_at s a table row)
    ∷ test N6 a table row (miscounts_at s a types || is_unfit s a table row types)
    ∷ []
