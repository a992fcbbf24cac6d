use Rattle.std.proofs.Common.{◌≡◌, ◌++◌, drop}
use Rattle.run_values.proofs.copies.+copies.Given as goal

abbrev pub invariant-copied_values-loop-value : goal.invariant-copied_values-loop-value
invariant-copied_values-loop-value l = l.copies ++ drop l.value-index l.values ≡ l.values
