use Rattle.std.proofs.Common.{◌∙◌}
use Rattle.row_descriptions.proofs.RowListLaws.{under_with, listed_as}
use Rattle.row_descriptions.specs.RowLists.{rows_under, rows_with}
use Rattle.row_descriptions.proofs.row_lists.rows_by_cell.Goals as goal

pub returns : goal.returns
returns c =
    listed_as (λ v. v.items) c.lists_by_number.result (rows_under c.as_slice.result.now) (rows_with c.args.rows.now c.args.table c.args.at) c.args.bound
    (λ n. under_with c.args.rows.now c.args.table c.args.at c.as_slice.result.now n (c.as_slice.ensures.value ∙ c.in_ok-numbers.ensures.numbers)) c.lists_by_number.ensures
