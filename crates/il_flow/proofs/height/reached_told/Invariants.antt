use Rattle.std.proofs.Common.{◌≡◌, take}
use Rattle.std.specs.Prelude.{map}
use Rattle.il_flow.specs.Heights.{has_height}
use Rattle.il_flow.proofs.height.reached_told.Given as goal

abbrev pub invariant-loop-mark : goal.invariant-loop-mark
invariant-loop-mark l = l.reached ≡ map has_height (take l.mark-index l.marks)
