use Rattle.set_list.proofs.UnreadLaws.{NoneTo}
use Rattle.set_list.proofs.unread.first_in_table.Given as goal

abbrev pub invariant-loop-k : goal.invariant-loop-k
invariant-loop-k l = NoneTo l.rows l.table l.k
