use Rattle.std.proofs.Common.{arith}
use Rattle.region_tree.proofs.ExtentLaws.{extends_with}
use Rattle.region_tree.proofs.order.extend_block.Goals as goal

pub returns-clause-added : goal.returns-clause-added
returns-clause-added c =
    extends_with c.args.region.now c.args.extents.now c.args.top c.args.own _ c.max-below.result c.max.result c.max-below.ensures c.max.ensures c.requires.top c.requires.proper (omega arith) c.requires.own (omega arith) (omega arith) (omega arith) (omega arith)
