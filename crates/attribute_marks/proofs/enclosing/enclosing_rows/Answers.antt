use Rattle.std.proofs.Common.{◌≡◌, ◌∙◌, ap, subst}
use Rattle.std.specs.Prelude.{map}
use Rattle.attribute_marks.specs.Firsts.{AreFirst}
use Rattle.attribute_marks.specs.Marks.{AreEnclosing, around}
use Rattle.attribute_marks.proofs.FirstLaws.{if_ok_of}
use Rattle.attribute_marks.proofs.MarkLaws.{enclosing_of}
use Rattle.attribute_marks.proofs.enclosing.enclosing_rows.Goals as goal

pub returns : goal.returns
returns c =
    if_ok_of (λ v. v.items) c.all_around.result (λ l. l ≡ map (around c.args.rows.now) c.as_slice-2.result.now) (λ l. AreEnclosing c.args.rows.now l)
    (λ l e. enclosing_of c.args.rows.now c.as_slice.result.now c.in_ok-firsts.firsts.items l (c.as_slice.ensures.value ∙ c.in_ok-nested.ensures.numbers)
    (subst (λ n. AreFirst c.as_slice.result.now n c.in_ok-firsts.firsts.items) c.count.ensures c.in_ok-firsts.ensures) (e ∙ ap (map (around c.args.rows.now)) c.as_slice-2.ensures.value)) c.all_around.ensures
