use Rattle.body_rules.proofs.RowLaws.{SetSoFar}
use Rattle.body_rules.proofs.sets.check_set_bodies.Given as goal

abbrev pub invariant-loop-a : goal.invariant-loop-a
invariant-loop-a l = SetSoFar l.tables l.a
