use Rattle.std.proofs.Common.{◌≡◌}
use Rattle.std.specs.Prelude.{map}
use Rattle.std.specs.List.{range_with_len}
use Rattle.set_types.specs.CodedTypes.{coded_of}
use Rattle.type_circles.specs.RowGraphs.{above_row}
use Rattle.type_circles.proofs.above.above_rows.Given as goal

abbrev pub invariant-loop-k : goal.invariant-loop-k
invariant-loop-k l = l.lists ≡ map (above_row l.types l.a l.rows (coded_of l.coded)) (range_with_len 1 l.k)
