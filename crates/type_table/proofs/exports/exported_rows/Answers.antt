use Rattle.set_program.specs.TypeRules.{exported}
use Rattle.type_table.proofs.RowLaws.{row_more}
use Rattle.type_table.proofs.exports.exported_rows.Goals as goal

pub loop-k-preserved : goal.loop-k-preserved
loop-k-preserved c =
    row_more (exported c.args.set.now c.args.a) c.loop-k.k c.loop-k.ids.items c.push.new.self.items c.in_ok-exported.field-0 c.in_ok-push.ensures.items c.in_ok-exported.ensures c.loop-k.invariant
