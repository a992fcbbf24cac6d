use Rattle.type_table.proofs.RowLaws.{row_more}
use Rattle.descriptions.specs.Descriptions.{reference_at}
use Rattle.member_facts.proofs.references.references.Goals as goal

pub loop-k-preserved : goal.loop-k-preserved
loop-k-preserved c =
    row_more (reference_at c.args.tables.now c.args.a) c.loop-k.k c.loop-k.found.items c.push.new.self.items c.in_ok-reference_at.field-0 c.in_ok-push.ensures.items c.in_ok-reference_at.ensures c.loop-k.invariant
