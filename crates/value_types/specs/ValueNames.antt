-- The names of the outside types that signatures of a set say to be value types (ECMA-335, II.23.1.16), each once. The kind of a failure is always one.
use Rattle.std.specs.Prelude.{List, [], ◌∷◌, flat_map}
use Rattle.cil_semantics.specs.Core.{failure_kind}
use Rattle.set_names.specs.Names.{Name}
use Rattle.set_names.specs.Distinct.{distinct}
use Rattle.set_rows.specs.Sets.{Assemblies}
use Rattle.set_program.specs.Numbering.{order}
use Rattle.set_program.specs.Environment.{values_in}

unfoldable pub value_names : Assemblies → List Name
value_names s = distinct [] (failure_kind ∷ flat_map (values_in s) (order s))
