use Rattle.std.proofs.Common.{◌≡◌, ◌++◌, drop}
use Rattle.run_statics.proofs.copies.copied_cells.Given as goal

abbrev pub invariant-loop-cell : goal.invariant-loop-cell
invariant-loop-cell l = l.copies ++ drop l.cell-index l.cells ≡ l.cells
