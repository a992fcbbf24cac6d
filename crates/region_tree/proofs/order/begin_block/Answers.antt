use Rattle.std.proofs.Common.{arith}
use Rattle.region_tree.proofs.ExtentLaws.{begins_with}
use Rattle.region_tree.proofs.order.begin_block.Goals as goal

pub returns-clause-added : goal.returns-clause-added
returns-clause-added c =
    begins_with c.args.region.now c.args.extents.now c.args.top c.args.own c.in_ok-inner.inner c.max-below.result c.max-below.ensures c.requires.top c.requires.proper c.requires.first c.requires.own c.in_ok-inner.ensures (omega arith)
