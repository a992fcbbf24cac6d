use Rattle.set_rows.specs.Owners.{IsFilled}
use Rattle.set_rows.proofs.owning.fill.Given as goal

abbrev pub invariant-loop-i : goal.invariant-loop-i
invariant-loop-i l = IsFilled l.initial.owners.items l.owners.items l.from l.i l.row
