use Rattle.std.proofs.Common.{◌≡◌, length}
use Rattle.cli_sigs.specs.Attributes.{from_front}
use Rattle.cli_sigs.proofs.attribute.from_front.Given as goal

abbrev pub decreases-loop-rest : goal.decreases-loop-rest
decreases-loop-rest l = length l.rest

abbrev pub invariant-loop-rest : goal.invariant-loop-rest
invariant-loop-rest l = from_front l.rest ≡ from_front l.text
