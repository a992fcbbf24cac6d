use Rattle.std.proofs.Common.{◌≡◌}
use Rattle.std.specs.Prelude.{map}
use Rattle.std.specs.List.{range_with_len}
use Rattle.type_circles.specs.RowGraphs.{around_row}
use Rattle.type_circles.proofs.around.around_rows.Given as goal

abbrev pub invariant-loop-k : goal.invariant-loop-k
invariant-loop-k l = l.lists ≡ map (around_row l.types l.a l.rows) (range_with_len 1 l.k)
