use Rattle.std.proofs.Common.{◌≡◌, ◌∙◌, ap}
use Rattle.std.specs.Prelude.{map}
use Rattle.attribute_marks.specs.Firsts.{AreFirst, first_or_none}
use Rattle.attribute_marks.proofs.FirstLaws.{firsts_of, if_ok_of}
use Rattle.attribute_marks.proofs.firsts.first_rows.Goals as goal

pub returns : goal.returns
returns c =
    if_ok_of (λ v. v.items) c.firsts.result (λ l. l ≡ map first_or_none c.as_slice.result.now) (λ l. AreFirst c.args.numbers.now c.args.count l)
    (λ l e. firsts_of c.args.numbers.now c.args.count c.in_ok-lists.lists.items l c.in_ok-lists.ensures (e ∙ ap (map first_or_none) c.as_slice.ensures.value)) c.firsts.ensures
