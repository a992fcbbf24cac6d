use Rattle.std.proofs.Common.{◌≡◌, length}
use Rattle.cli_sigs.specs.Attributes.{behind_comma}
use Rattle.cli_sigs.proofs.attribute.behind_comma.Given as goal

abbrev pub decreases-loop-rest : goal.decreases-loop-rest
decreases-loop-rest l = length l.rest

abbrev pub invariant-loop-rest : goal.invariant-loop-rest
invariant-loop-rest l = behind_comma l.rest ≡ behind_comma l.text
