use Rattle.std.proofs.Common.{◌≡◌, length}
use Rattle.command_line.specs.Options.{texts, value_of}
use Rattle.command_line.proofs.options.value_of.Given as goal

abbrev pub invariant-loop-rest : goal.invariant-loop-rest
invariant-loop-rest l = value_of l.name (texts l.rest) ≡ value_of l.name (texts l.words)

abbrev pub decreases-loop-rest : goal.decreases-loop-rest
decreases-loop-rest l = length l.rest
