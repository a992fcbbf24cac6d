use Rattle.std.proofs.Common.{ap, ◌+◌}
use Rattle.row_descriptions.proofs.RowListLaws.{owned_listed}
use Rattle.row_descriptions.proofs.owners.owned_rows.Goals as goal

pub returns : goal.returns
returns c = owned_listed c.args.rows.now c.args.column c.args.table c.args.owners.now c.requires (λ v. v.items) c.lists_by_number.result (c.count-types.result + 1) (ap (λ n. n + 1) c.count-types.ensures) c.lists_by_number.ensures
