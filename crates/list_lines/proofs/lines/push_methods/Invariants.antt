use Rattle.std.proofs.Common.{◌≡◌, ◌++◌, take}
use Rattle.list_lines.specs.Lists.{methods_text, text_at}
use Rattle.list_lines.proofs.lines.push_methods.Given as goal

abbrev pub invariant-loop-m : goal.invariant-loop-m
invariant-loop-m l = l.out ≡ l.initial.out ++ methods_text (text_at l.contracts) l.program.methods (take l.m-index l.methods)
