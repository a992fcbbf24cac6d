use Rattle.std.proofs.Common.{◌≡◌, ◌++◌, drop}
use Rattle.run_methods.proofs.values.push_copies.Given as goal

abbrev pub invariant-loop-v : goal.invariant-loop-v
invariant-loop-v l = l.all ++ drop l.v-index l.values ≡ l.fn.all ++ l.values
