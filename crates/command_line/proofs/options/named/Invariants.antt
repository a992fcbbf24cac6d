use Rattle.std.proofs.Common.{◌≡◌, drop}
use Rattle.command_line.specs.Options.{named}
use Rattle.command_line.proofs.options.named.Given as goal

abbrev pub invariant-loop-option : goal.invariant-loop-option
invariant-loop-option l = named (drop l.option-index l.options) l.word ≡ named l.options l.word
