use Rattle.set_list.proofs.UnreadLaws.{both_tables}
use Rattle.set_list.proofs.unread.first_in_rows.Goals as goal

pub returns : goal.returns
returns c = both_tables c.args.rows.now c.in_default.ensures c.first_in_table-2.result c.first_in_table-2.ensures
