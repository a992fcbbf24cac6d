use Rattle.body_rules.proofs.RowLaws.{AllSoFar}
use Rattle.body_rules.proofs.sets.set_bodies.Given as goal

abbrev pub invariant-loop-a : goal.invariant-loop-a
invariant-loop-a l = AllSoFar l.tables l.a l.all.items
