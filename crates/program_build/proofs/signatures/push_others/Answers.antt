use Rattle.cil_base.specs.declared.tables.TheConstants.{METHOD_DEF}
use Rattle.program_build.specs.Orders.{signature_at}
use Rattle.program_build.proofs.OrderLaws.{pushed_assembly}
use Rattle.program_build.proofs.signatures.push_others.Goals as goal

pub loop-k-preserved : goal.loop-k-preserved
loop-k-preserved c =
    pushed_assembly c.args.tables.now METHOD_DEF (signature_at c.args.tables.now) c.loop-k.k c.count-count.result c.rows_at.result.now c.args.out.now.items c.loop-k.out.items c.push_signatures.new.out.items
    c.count-count.ensures c.rows_at.ensures c.in_ok-push_signatures.ensures c.loop-k.invariant
