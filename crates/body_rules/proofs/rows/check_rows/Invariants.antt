use Rattle.body_rules.proofs.RowLaws.{RowsSoFar}
use Rattle.body_rules.proofs.rows.check_rows.Given as goal

abbrev pub invariant-loop-k : goal.invariant-loop-k
invariant-loop-k l = RowsSoFar l.tables l.a l.k
