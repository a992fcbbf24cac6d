use Rattle.std.proofs.Common.{◌≡◌, ◌++◌, drop, map}
use Rattle.cil_semantics.specs.declared.Cell.{Cell}
use Rattle.run_outside.proofs.asking.values_in.Given as goal

abbrev pub invariant-loop-cell : goal.invariant-loop-cell
invariant-loop-cell l = l.values ++ map (λ (c : Cell). c.value) (drop l.cell-index l.cells) ≡ map (λ (c : Cell). c.value) l.cells
