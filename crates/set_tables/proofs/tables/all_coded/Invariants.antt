use Rattle.set_tables.proofs.HeldLaws.{CodedUpTo}
use Rattle.set_tables.proofs.tables.all_coded.Given as goal

abbrev pub invariant-loop-a : goal.invariant-loop-a
invariant-loop-a l = CodedUpTo l.set l.a l.all.items
