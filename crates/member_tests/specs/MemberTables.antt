-- The rules on members, over the rows of one table (order: own).
use Rattle.std.specs.Prelude.{ℕ, List, [], ◌∷◌, flat_map}
use Rattle.cil_base.specs.declared.rule.Rule.TheVariants.{N1, N2, N4, N6}
use Rattle.cil_base.specs.Refusals.{Test}
use Rattle.cli_sigs.specs.declared.types.SigTy.{SigTy}
use Rattle.set_rows.specs.Sets.{Assemblies, assembly_at, rows_in}
use Rattle.set_program.specs.Environment.{coded_in}
use Rattle.set_program.specs.TypeRules.{test}
use Rattle.member_table.specs.MemberRules.{isnt_read, isnt_there, is_taken_at, miscounts_at, member_tests}

-- the tests of the rows of a table of an assembly, by row
abbrev pub member_table_tests : Assemblies → ℕ → ℕ → List Test
member_table_tests s a table = flat_map (member_tests s a table) (rows_in (assembly_at s a) table)

-- the tests of a row with these types, but that of the parameters around it
unfoldable pub early_tests : Assemblies → ℕ → ℕ → ℕ → List SigTy → List Test
early_tests s a table row types =
    test N1 a table row (isnt_read (coded_in s a) types)
    ∷ test N2 a table row (isnt_there s a table row)
    ∷ test N4 a table row (is_taken_at s a table row)
    ∷ test N6 a table row (miscounts_at s a types)
    ∷ []
