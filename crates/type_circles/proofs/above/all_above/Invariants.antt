use Rattle.std.proofs.Common.{◌≡◌}
use Rattle.std.specs.Prelude.{map}
use Rattle.std.specs.List.{range_with_len}
use Rattle.type_circles.specs.RowGraphs.{above_in}
use Rattle.type_circles.proofs.above.all_above.Given as goal

abbrev pub invariant-loop-a : goal.invariant-loop-a
invariant-loop-a l = l.all.items ≡ map (above_in l.types l.assemblies) (range_with_len 0 l.a)
