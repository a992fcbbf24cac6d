use Rattle.std.proofs.Common.{subst, MatchOption}
use Rattle.cil_base.specs.Refusals.{First, NoneBroken}
use Rattle.set_rows.specs.Sets.{Assembly}
use Rattle.set_list.specs.Unread.{IsUnread}
use Rattle.set_list.proofs.unread.first_unread_row.Goals as goal

pub returns : goal.returns
returns c = subst (λ (x : Assembly). MatchOption c.first_in_rows.result (NoneBroken (IsUnread x)) (First (IsUnread x))) c.new.ensures c.first_in_rows.ensures
