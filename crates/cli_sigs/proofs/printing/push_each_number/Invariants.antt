use Rattle.std.proofs.Common.{take}
use Rattle.cli_sigs.specs.Numbers.{Shortest, IsNumber}
use Rattle.cli_sigs.specs.Grammar.{Each, Adds}
use Rattle.cli_sigs.proofs.printing.push_each_number.Given as goal

abbrev pub invariant-loop-n : goal.invariant-loop-n
invariant-loop-n l = Adds (Each (IsNumber Shortest)) l.fn.out.items l.out.items (take l.n-index l.numbers)
