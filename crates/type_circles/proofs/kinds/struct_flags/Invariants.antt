use Rattle.std.proofs.Common.{◌≡◌, take}
use Rattle.std.specs.Prelude.{map}
use Rattle.type_circles.specs.Structs.{is_struct_of}
use Rattle.type_circles.proofs.kinds.struct_flags.Given as goal

abbrev pub invariant-loop-of : goal.invariant-loop-of
invariant-loop-of l = l.flags.items ≡ map (is_struct_of l.assemblies) (take l.of-index l.types)
