use Rattle.set_program.specs.References.{reference}
use Rattle.type_table.proofs.RowLaws.{row_more}
use Rattle.type_table.proofs.identities.reference_rows.Goals as goal

pub loop-k-preserved : goal.loop-k-preserved
loop-k-preserved c =
    row_more (reference c.args.set.now c.args.a) c.loop-k.k c.loop-k.ids.items c.push.new.self.items c.in_ok-reference.field-0 c.in_ok-push.ensures.items c.in_ok-reference.ensures c.loop-k.invariant
