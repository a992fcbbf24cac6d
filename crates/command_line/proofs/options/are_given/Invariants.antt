use Rattle.std.proofs.Common.{◌≡◌, drop}
use Rattle.command_line.specs.Options.{texts, are_given}
use Rattle.command_line.proofs.options.are_given.Given as goal

abbrev pub invariant-loop-option : goal.invariant-loop-option
invariant-loop-option l = are_given (texts l.words) (drop l.option-index l.options) ≡ are_given (texts l.words) l.options
