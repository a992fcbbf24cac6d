use Rattle.body_rules.proofs.RowLaws.{SoFar}
use Rattle.body_rules.proofs.rows.assembly_bodies.Given as goal

abbrev pub invariant-loop-k : goal.invariant-loop-k
invariant-loop-k l = SoFar l.tables l.a l.k l.bodies.items
