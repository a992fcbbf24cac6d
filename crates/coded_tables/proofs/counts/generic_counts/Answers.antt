use Rattle.std.proofs.Common.{arith, ◌+◌, ◌*◌, ◌≤◌}
use Rattle.cil_base.specs.declared.tables.TheConstants.{METHOD_DEF, TYPE_DEF}
use Rattle.set_rows.specs.Sets.{rows_in}
use Rattle.coded_tables.proofs.CountLaws.{lists_short, counted, of_types}
use Rattle.coded_tables.proofs.counts.generic_counts.Goals as goal

pub lengths-requires-clause-short : goal.lengths-requires-clause-short
lengths-requires-clause-short c =
    lists_short c.args.rows.now (c.max.result * 2 + 2) c.as_slice.result.now c.in_ok-lists.lists.items c.as_slice.ensures.value c.in_ok-lists.ensures c.count-parameters.result c.count-parameters.ensures (omega (arith, c.count-parameters.type_inv))

pub lengths-requires-2-clause-short : goal.lengths-requires-2-clause-short
lengths-requires-2-clause-short c =
    lists_short c.args.rows.now (c.max.result * 2 + 2) c.as_slice-2.result.now c.in_ok-lists.lists.items c.as_slice-2.ensures.value c.in_ok-lists.ensures c.count-parameters.result c.count-parameters.ensures (omega (arith, c.count-parameters.type_inv))

pub returns : goal.returns
returns c =
    let types_fit : c.count-types.result * 2 + 2 ≤ c.max.result * 2 + 2 = omega (arith, c.max.ensures) in
    let methods_fit : c.count-methods.result * 2 + 2 ≤ c.max.result * 2 + 2 = omega (arith, c.max.ensures) in
    record {
      types = of_types c.args.rows.now (rows_in c.args.rows.now TYPE_DEF) c.in_ok-lengths.field-0.items (counted c.args.rows.now (c.max.result * 2 + 2) c.as_slice.result.now c.in_ok-lists.lists.items c.as_slice.ensures.value c.in_ok-lists.ensures TYPE_DEF 0 c.count-types.result c.in_ok-lengths.field-0.items (omega arith) types_fit c.count-types.ensures c.in_ok-lengths.ensures);
      methods = counted c.args.rows.now (c.max.result * 2 + 2) c.as_slice-2.result.now c.in_ok-lists.lists.items c.as_slice-2.ensures.value c.in_ok-lists.ensures METHOD_DEF 1 c.count-methods.result c.in_ok-lengths-2.field-0.items (omega arith) methods_fit c.count-methods.ensures c.in_ok-lengths-2.ensures;
    }
