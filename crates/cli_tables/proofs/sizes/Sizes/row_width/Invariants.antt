use Rattle.std.proofs.Common.{◌≡◌, ◌≤◌, ◌*◌, take}
use Rattle.std.specs.Prelude.{sum_by}
use Rattle.cli_tables.specs.Schema.{columns_of}
use Rattle.cli_tables.specs.Stream.{width_of}
use Rattle.cli_tables.proofs.sizes.Sizes.row_width.Given as goal

abbrev pub invariant-loop-column : goal.invariant-loop-column
invariant-loop-column l = record {
  sum : l.total ≡ sum_by (width_of l.self) (take l.column-index (columns_of l.table));
  small : l.total ≤ 4 * l.column-index;
}
