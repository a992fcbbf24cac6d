use Rattle.std.proofs.Common.{◌≡◌, length}
use Rattle.cli_sigs.specs.Attributes.{up_to_end}
use Rattle.cli_sigs.proofs.attribute.up_to_end.Given as goal

abbrev pub decreases-loop-rest : goal.decreases-loop-rest
decreases-loop-rest l = length l.rest

abbrev pub invariant-loop-rest : goal.invariant-loop-rest
invariant-loop-rest l = up_to_end l.rest ≡ up_to_end l.text
