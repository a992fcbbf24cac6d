use Rattle.set_types.specs.CodedTypes.{coded_of}
use Rattle.type_table.proofs.RowLaws.{row_more}
use Rattle.coded_tables.specs.RowKinds.{row_kind}
use Rattle.coded_tables.proofs.base_kinds.row_kinds.Goals as goal

pub loop-k-preserved : goal.loop-k-preserved
loop-k-preserved c =
    row_more (row_kind c.args.rows.now (coded_of c.args.coded.now)) c.loop-k.k c.loop-k.kinds.items c.push.new.self.items c.in_ok-row_kind.field-0 c.in_ok-push.ensures.items c.in_ok-row_kind.ensures c.loop-k.invariant
