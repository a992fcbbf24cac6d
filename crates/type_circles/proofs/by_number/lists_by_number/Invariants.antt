use Rattle.std.proofs.Common.{◌≡◌, take}
use Rattle.std.specs.Prelude.{map}
use Rattle.type_circles.specs.RowGraphs.{row_list}
use Rattle.type_circles.proofs.by_number.lists_by_number.Given as goal

abbrev pub invariant-loop-of : goal.invariant-loop-of
invariant-loop-of l = l.found.items ≡ map (row_list l.lists) (take l.of-index l.types)
