use Rattle.member_numbers.proofs.KeptLaws.{all_counted}
use Rattle.member_numbers.proofs.numbers.MemberNumbers.len.Goals as goal

pub returns : goal.returns
returns c =
    all_counted c.args.self.now c.args.is_field c.of_kind.result.now.starts.items c.of_kind.result.now.old c.of_kind.result.now.all c.of_kind.result.now.outside c.of_kind.result.now.rows.items c.of_kind.ensures
