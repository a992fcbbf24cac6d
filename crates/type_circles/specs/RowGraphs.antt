-- To which types the rows of one assembly lead (ECMA-335, II.22.23, II.22.32, II.22.37).
use Rattle.std.specs.Prelude.{ℕ, ◌-◌, List, [], ◌++◌, get_or, map, slice_get, option_to_list, option_and_then}
use Rattle.std.specs.List.{flat_map}
use Rattle.cil_base.specs.declared.tables.TheConstants.{INTERFACE_IMPL, TYPE_DEF}
use Rattle.set_rows.specs.Sets.{Assembly, Assemblies, cell, rows_in}
use Rattle.set_types.specs.SignatureTypes.{Coded}
use Rattle.set_program.specs.declared.identity.TypeId.TheVariants as id
use Rattle.set_program.specs.Environment.{number_of}
use Rattle.set_program.specs.TypeNames.{enclosing}
use Rattle.set_program.specs.TypeRules.{leads_to, own_number}
use Rattle.members.specs.declared.assembly_members.AssemblyMembers.{AssemblyMembers}
use Rattle.members.specs.declared.set_type.SetType.{SetType}
use Rattle.member_table.specs.Environments.{coded_ty_at, rows_or, coded_or}
use Rattle.row_descriptions.specs.RowLists.{rows_with}

-- to which types the base and the interfaces of a TypeDef row lead; `own` is the number of its type
abbrev pub above_own : List ℕ → Assembly → Coded → ℕ → List ℕ
above_own own x c row =
    leads_to own (coded_ty_at c (cell x TYPE_DEF row 3))
    ++ flat_map (λ i. leads_to own (coded_ty_at c (cell x INTERFACE_IMPL i 1))) (rows_with x INTERFACE_IMPL 0 row)

abbrev pub above_row : Assemblies → ℕ → Assembly → Coded → ℕ → List ℕ
above_row s a x c row = above_own (own_number s a row) x c row

-- the type around a TypeDef row
abbrev pub around_row : Assemblies → ℕ → Assembly → ℕ → List ℕ
around_row s a x row = option_to_list (option_and_then (λ o. number_of s (id.Row a o)) (enclosing x row))

-- ---- of the rows of an assembly

abbrev pub above_in : Assemblies → List AssemblyMembers → ℕ → List (List ℕ)
above_in s assemblies a =
    map (above_row s a (rows_or (slice_get assemblies a)) (coded_or (slice_get assemblies a))) (rows_in (rows_or (slice_get assemblies a)) TYPE_DEF)

abbrev pub around_in : Assemblies → List AssemblyMembers → ℕ → List (List ℕ)
around_in s assemblies a = map (around_row s a (rows_or (slice_get assemblies a))) (rows_in (rows_or (slice_get assemblies a)) TYPE_DEF)

-- the list of a type's row, where they stand by assembly and by row from 0
abbrev pub row_list : List (List (List ℕ)) → SetType → List ℕ
row_list lists t = get_or (get_or lists t.assembly []) (t.row - 1) []
