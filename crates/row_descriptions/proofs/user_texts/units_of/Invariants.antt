use Rattle.std.proofs.Common.{◌≡◌, ◌++◌, length}
use Rattle.row_descriptions.specs.UserTexts.{units_of}
use Rattle.row_descriptions.proofs.user_texts.units_of.Given as goal

abbrev pub invariant-loop-rest : goal.invariant-loop-rest
invariant-loop-rest l = l.units ++ units_of l.rest ≡ units_of l.bytes

abbrev pub decreases-loop-rest : goal.decreases-loop-rest
decreases-loop-rest l = length l.rest
