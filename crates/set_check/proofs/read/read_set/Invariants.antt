use Rattle.set_check.proofs.SetLaws.{IsReadUpTo}
use Rattle.set_check.proofs.read.read_set.Given as goal

abbrev pub invariant-loop-k : goal.invariant-loop-k
invariant-loop-k l = IsReadUpTo l.files l.k l.set.items
