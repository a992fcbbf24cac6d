-- The rule on TypeRef rows: each names a type.
use Rattle.std.specs.Prelude.{ℕ, is_none, List, map}
use Rattle.cil_base.specs.declared.rule.Rule.TheVariants.{N1}
use Rattle.cil_base.specs.Refusals.{Test, refusal}
use Rattle.set_rows.specs.Sets.{Assemblies, assembly_at, rows_in}
use Rattle.set_program.specs.References.{reference}
use Rattle.cil_base.specs.declared.tables.TheConstants.{TYPE_REF}

abbrev pub reference_test : Assemblies → ℕ → ℕ → Test
reference_test s a row = record { refusal = refusal N1 (record { assembly = a; table = 0x01; row = row }) 0; fails = is_none (reference s a row) }

abbrev pub reference_tests : Assemblies → ℕ → List Test
reference_tests s a = map (reference_test s a) (rows_in (assembly_at s a) TYPE_REF)
