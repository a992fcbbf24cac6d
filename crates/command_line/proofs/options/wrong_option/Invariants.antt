use Rattle.std.proofs.Common.{◌≡◌, ◌+◌, ◌-◌, ◌≤◌, length, take, drop, []}
use Rattle.command_line.specs.Options.{texts, wrong_option}
use Rattle.command_line.proofs.options.wrong_option.Given as goal

abbrev pub invariant-loop-rest : goal.invariant-loop-rest
invariant-loop-rest l = record {
  behind : 1 ≤ l.place;
  place_is : l.place + length l.rest ≡ 1 + length l.words;
  rest_is : l.rest ≡ drop (l.place - 1) l.words;
  same : wrong_option l.options (texts (take (l.place - 1) l.words)) l.place (texts l.rest) ≡ wrong_option l.options [] 1 (texts l.words);
}

abbrev pub decreases-loop-rest : goal.decreases-loop-rest
decreases-loop-rest l = length l.rest
