use Rattle.std.proofs.Common.{◌≡◌}
use Rattle.std.specs.Prelude.{map}
use Rattle.std.specs.List.{range_with_len}
use Rattle.set_program.specs.Attributes.{attribute_name}
use Rattle.type_table.proofs.attributes.attribute_names.Given as goal

abbrev pub invariant-loop-k : goal.invariant-loop-k
invariant-loop-k l = l.names.items ≡ map (attribute_name l.set l.a) (range_with_len 1 l.k)
