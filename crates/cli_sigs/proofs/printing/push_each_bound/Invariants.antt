use Rattle.std.proofs.Common.{take}
use Rattle.cli_sigs.specs.Numbers.{Shortest, IsSignedNumber}
use Rattle.cli_sigs.specs.Grammar.{Each, Adds}
use Rattle.cli_sigs.proofs.printing.push_each_bound.Given as goal

abbrev pub invariant-loop-bound : goal.invariant-loop-bound
invariant-loop-bound l = Adds (Each (IsSignedNumber Shortest)) l.fn.out.items l.out.items (take l.bound-index l.bounds)
