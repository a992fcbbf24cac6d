use Rattle.std.proofs.Common.{◌≡◌}
use Rattle.std.specs.Prelude.{map}
use Rattle.std.specs.List.{range_with_len}
use Rattle.struct_fields.specs.StructFields.{within_at}
use Rattle.struct_fields.proofs.within.within_each.Given as goal

abbrev pub invariant-loop-k : goal.invariant-loop-k
invariant-loop-k l = l.lists.items ≡ map (within_at l.structs l.assemblies l.types) (range_with_len 0 l.k)
