use Rattle.std.proofs.Common.{◌∙◌, []}
use Rattle.type_circles.proofs.ListLaws.{past, present}
use Rattle.type_circles.proofs.by_number.list_at.Goals as goal

pub returns-in-None : goal.returns-in-None
returns-in-None c = past c.args.lists.now c.args.place [] c.in-None.ensures.value

pub returns-in-Some : goal.returns-in-Some
returns-in-Some c = c.as_slice.ensures ∙ present c.args.lists.now c.args.place [] c.in-Some.list.now c.in-Some.ensures.value
