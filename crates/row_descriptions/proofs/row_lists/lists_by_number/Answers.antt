use Rattle.std.proofs.Common.{get_or}
use Rattle.row_descriptions.proofs.RowListLaws.{listed_step}
use Rattle.row_descriptions.proofs.row_lists.lists_by_number.Goals as goal

pub loop-k-preserved : goal.loop-k-preserved
loop-k-preserved c =
    listed_step c.args.numbers.now c.args.bound c.loop-k.k (get_or c.args.numbers.now c.loop-k.k 0) c.loop-k.lists.items (λ i. get_or c.args.numbers.now c.loop-k.k 0) c.loop-k.invariant c.push_row.new.lists.items c.in_ok-push_row.ensures
