use Rattle.std.proofs.Common.{◌≡◌, ◌∙◌}
use Rattle.spec_tests.proofs.UseLaws.{parents_are}
use Rattle.spec_tests.proofs.uses.parent_lists.Goals as goal

pub returns : goal.returns
returns c =
    parents_are (λ v. v.items) c.lists_by_number.result c.args.rows.now c.args.column c.args.count c.as_slice.result.now (c.as_slice.ensures.value ∙ c.in_ok-numbers.ensures.numbers) c.lists_by_number.ensures
