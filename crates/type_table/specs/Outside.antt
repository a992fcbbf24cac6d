-- The outside types that one assembly's attributes of Code Contracts name (Code Contracts manual, "Contract classes").
use Rattle.std.specs.Prelude.{ℕ, List, filter, filter_map}
use Rattle.cil_base.specs.declared.tables.TheConstants.{CUSTOM_ATTRIBUTE}
use Rattle.set_names.specs.Names.{Name}
use Rattle.set_rows.specs.Sets.{Assemblies, assembly_at, rows_in}
use Rattle.set_program.specs.Numbering.{outside_name}
use Rattle.set_program.specs.Attributes.{attribute_type, names_type}

unfoldable pub outside_by_attributes : Assemblies → ℕ → List Name
outside_by_attributes s a = filter_map (λ k. outside_name (attribute_type s a k)) (filter (names_type s a) (rows_in (assembly_at s a) CUSTOM_ATTRIBUTE))
