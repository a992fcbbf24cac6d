use Rattle.std.proofs.Common.{◌≡◌}
use Rattle.std.specs.Prelude.{map}
use Rattle.std.specs.List.{range_with_len}
use Rattle.set_types.specs.CodedTypes.{coded_of}
use Rattle.coded_tables.specs.RowKinds.{row_kind}
use Rattle.coded_tables.proofs.base_kinds.row_kinds.Given as goal

abbrev pub invariant-loop-k : goal.invariant-loop-k
invariant-loop-k l = l.kinds.items ≡ map (row_kind l.rows (coded_of l.coded)) (range_with_len 1 l.k)
