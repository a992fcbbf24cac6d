use Rattle.std.proofs.Common.{◌≡◌, ◌++◌, length, reverse}
use Rattle.run_handlers.proofs.handled.turn_all.Given as goal

abbrev pub invariant-loop-one : goal.invariant-loop-one
invariant-loop-one l = reverse l.from ++ l.to ≡ reverse l.fn.from ++ l.fn.to

abbrev pub decreases-loop-one : goal.decreases-loop-one
decreases-loop-one l = length l.from
