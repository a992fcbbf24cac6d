use Rattle.std.proofs.Common.{◌≤◌}
use Rattle.set_check.specs.Sets.{bytes_of}
use Rattle.set_check.proofs.SetLaws.{NoneUpTo}
use Rattle.set_check.proofs.check.first_contract_row_from.Given as goal

abbrev pub invariant-loop-k : goal.invariant-loop-k
invariant-loop-k l = (l.from ≤ l.k) × NoneUpTo (bytes_of l.set) l.from l.k
