use Rattle.method_bodies.proofs.RowLaws.{SoFar}
use Rattle.method_bodies.proofs.rows.bodies.Given as goal

abbrev pub invariant-loop-k : goal.invariant-loop-k
invariant-loop-k l = SoFar l.rows l.image.bytes l.a l.k l.bodies.items
