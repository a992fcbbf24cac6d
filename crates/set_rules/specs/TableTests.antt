-- The rules on the names of types, over the rows of one table (order: own).
use Rattle.std.specs.Prelude.{ℕ, List, flat_map}
use Rattle.cil_base.specs.Refusals.{Test}
use Rattle.set_rows.specs.Sets.{Assemblies, assembly_at, rows_in}
use Rattle.set_program.specs.TypeRules.{type_tests}

-- the tests of the rows of a table of an assembly, by row
abbrev pub table_tests : Assemblies → ℕ → ℕ → List Test
table_tests s a table = flat_map (type_tests s a table) (rows_in (assembly_at s a) table)
