use Rattle.std.proofs.Common.{◌≡◌}
use Rattle.std.specs.Prelude.{map}
use Rattle.std.specs.List.{range_with_len}
use Rattle.set_rows.specs.Sets.{cell}
use Rattle.row_descriptions.proofs.row_lists.column.Given as goal

abbrev pub invariant-loop-k : goal.invariant-loop-k
invariant-loop-k l = l.numbers.items ≡ map (λ row. cell l.rows l.table row l.column) (range_with_len 1 l.k)
