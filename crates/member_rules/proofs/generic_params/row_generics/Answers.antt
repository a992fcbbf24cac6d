use Rattle.std.proofs.Common.{arith, ◌+◌, ◌*◌}
use Rattle.coded_tables.proofs.CountLaws.{lists_short}
use Rattle.member_rules.proofs.GenericLaws.{of_lists}
use Rattle.member_rules.proofs.generic_params.row_generics.Goals as goal

pub lengths-requires : goal.lengths-requires
lengths-requires c =
    lists_short c.args.rows.now (c.max.result * 2 + 2) c.as_slice.result.now c.in_ok-lists.lists.items c.as_slice.ensures.value c.in_ok-lists.ensures c.count-parameters.result c.count-parameters.ensures (omega (arith, c.count-parameters.type_inv))

pub returns : goal.returns
returns c = of_lists c.args.rows.now (c.max.result * 2 + 2) c.as_slice.result.now c.in_ok-lists.lists.items c.in_ok-counts.counts c.as_slice.ensures.value c.in_ok-lists.ensures c.in_ok-counts.ensures
