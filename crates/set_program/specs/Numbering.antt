-- The numbers of types, fields and methods. Rows of the other assemblies come first, then TARGET's up to `__ContractsRuntime`, then what is outside, then `__ContractsRuntime` and what stands behind it. So rows that are appended to TARGET move no number.
use Rattle.std.specs.Prelude.{ℕ, ◌+◌, ◌-◌, ◌==◌, max, bytes_eq, nat_lt, if◌then◌else◌, Bool, false, List, [], ◌∷◌, ◌++◌, map, length, codes, Option, Some, None, flat_map, filter_map}
use Rattle.std.specs.List.{range_with_len, position_from}
use Rattle.set_program.specs.declared.identity.TypeId.{TypeId}
use Rattle.set_program.specs.declared.identity.TypeId.TheVariants.{Row, Outside}
use Rattle.set_names.specs.Names.{Name}
use Rattle.set_names.specs.Distinct.{distinct}
use Rattle.set_rows.specs.Sets.{Assembly, Assemblies, assembly_at, count_in, rows_in, cell}
use Rattle.set_program.specs.TypeNames.{type_named}
use Rattle.set_program.specs.References.{reference}
use Rattle.cil_base.specs.declared.tables.TheConstants.{FIELD, METHOD_DEF, TYPE_DEF, TYPE_REF}

abbrev pub runtime_name : Name
runtime_name = codes "__ContractsRuntime"

abbrev pub row_or : ℕ → Option ℕ → ℕ
row_or other None = other
row_or other (Some row) = row

-- the TypeDef row of TARGET's runtime class, else one past the last
unfoldable pub type_cut : Assembly → ℕ
type_cut x = row_or (count_in x TYPE_DEF + 1) (type_named x runtime_name)

-- the first row that the list column of a TypeDef row owns, else one past the last
abbrev pub first_owned : Assembly → ℕ → ℕ → ℕ → ℕ
first_owned x column table row = if nat_lt (count_in x TYPE_DEF) row then count_in x table + 1 else max 1 (cell x TYPE_DEF row column)

-- the first row of Field (0x04, column 4) or MethodDef (0x06, column 5) of the runtime class, else one past the last
abbrev pub cut : Assembly → ℕ → ℕ
cut x table =
    if table == TYPE_DEF then type_cut x
    else if table == FIELD then first_owned x 4 FIELD (type_cut x)
    else first_owned x 5 METHOD_DEF (type_cut x)

-- the assemblies in the order in which they are walked: TARGET last
abbrev pub walk : {A : Type 0} → List A → List A
walk [] = []
walk (x ∷ xs) = xs ++ x ∷ []

-- the numbers of the assemblies in that order
abbrev pub order : Assemblies → List ℕ
order s = walk (range_with_len 0 (length s))

abbrev pub Cell : Type 0
Cell = ℕ × ℕ

-- an assembly's rows from one up to another
abbrev pub rows_between : ℕ → ℕ → ℕ → List Cell
rows_between a from to = map (λ row. (a, row)) (range_with_len from (to - from))

-- the rows of the other assemblies, then TARGET's before the cut
abbrev pub old_rows : Assemblies → ℕ → List Cell
old_rows [] table = []
old_rows (x ∷ xs) table =
    flat_map (λ a. rows_between a 1 (count_in (assembly_at (x ∷ xs) a) table + 1)) (range_with_len 1 (length xs)) ++ rows_between 0 1 (cut x table)

-- TARGET's rows from the cut on
abbrev pub new_rows : Assemblies → ℕ → List Cell
new_rows s table = rows_between 0 (cut (assembly_at s 0) table) (count_in (assembly_at s 0) table + 1)

-- ---- outside types

abbrev pub outside_name : Option TypeId → Option Name
outside_name None = None
outside_name (Some (Row a row)) = None
outside_name (Some (Outside name)) = Some name

-- the names by which the TypeRef rows of an assembly name outside types
unfoldable pub names_outside : Assemblies → ℕ → List Name
names_outside s a = filter_map (λ row. outside_name (reference s a row)) (rows_in (assembly_at s a) TYPE_REF)

-- Types that have a number in each program: those of one byte in signatures, that of arrays, and one for members without a type.
unfoldable pub fixed_names : List Name
fixed_names =
    map (λ name. codes "System." ++ name)
    (codes "Void" ∷ codes "Boolean" ∷ codes "Char" ∷ codes "SByte" ∷ codes "Byte" ∷ codes "Int16" ∷ codes "UInt16" ∷ codes "Int32" ∷ codes "UInt32" ∷ codes "Int64" ∷ codes "UInt64" ∷ codes "Single" ∷ codes "Double" ∷ codes "String" ∷ codes "TypedReference" ∷ codes "IntPtr" ∷ codes "UIntPtr" ∷ codes "Object" ∷ codes "Array" ∷ [])
    ++ codes "<Module>" ∷ []

-- the names of the outside types, in order; attributes: those that contract attributes name
unfoldable pub outside_names : Assemblies → List Name → List Name
outside_names s attributes = distinct [] (fixed_names ++ (attributes ++ flat_map (names_outside s) (order s)))

abbrev pub of_row : Cell → TypeId
of_row c = Row c.0 c.1

-- the types of a program in order
unfoldable pub type_ids : Assemblies → List Name → List TypeId
type_ids s attributes = map of_row (old_rows s TYPE_DEF) ++ (map Outside (outside_names s attributes) ++ map of_row (new_rows s TYPE_DEF))

abbrev pub same_id : TypeId → TypeId → Bool
same_id (Row a row) (Row b other) = if a == b then row == other else false
same_id (Row a row) (Outside other) = false
same_id (Outside name) (Row b other) = false
same_id (Outside name) (Outside other) = bytes_eq name other

-- the number of a type
abbrev pub number_in : List TypeId → TypeId → Option ℕ
number_in ids id = position_from (same_id id) 0 ids
