use Rattle.row_descriptions.proofs.RowListLaws.{Listed}
use Rattle.row_descriptions.proofs.row_lists.lists_by_number.Given as goal

abbrev pub invariant-loop-k : goal.invariant-loop-k
invariant-loop-k l = Listed l.numbers l.bound l.k l.lists.items
