use Rattle.std.proofs.Common.{◌≡◌, ◌+◌, drop}
use Rattle.command_line.specs.Options.{texts, wrong_positional}
use Rattle.command_line.proofs.options.wrong_positional.Given as goal

abbrev pub invariant-loop-word : goal.invariant-loop-word
invariant-loop-word l = record {
  at_is : l.at ≡ l.place + l.word-index;
  same : wrong_positional l.at_least l.left l.at (texts (drop l.word-index l.words)) ≡ wrong_positional l.at_least l.count l.place (texts l.words);
}
