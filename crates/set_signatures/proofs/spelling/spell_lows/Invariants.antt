use Rattle.std.proofs.Common.{◌≡◌, ◌++◌, drop}
use Rattle.set_signatures.specs.Spelling.{spelled_lows}
use Rattle.set_signatures.proofs.spelling.spell_lows.Given as goal

-- what is left of the list
abbrev pub invariant-loop-low : goal.invariant-loop-low
invariant-loop-low l = l.initial.out ++ spelled_lows l.lows ≡ l.out ++ spelled_lows (drop l.low-index l.lows)
