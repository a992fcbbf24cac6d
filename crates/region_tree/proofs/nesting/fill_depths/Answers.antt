use Rattle.std.proofs.Common.{◌≤◌, ◌-◌, length, arith}
use Rattle.region_tree.proofs.NestingLaws.{rest_within}
use Rattle.region_tree.proofs.nesting.fill_depths.Goals as goal

pub overflow_add-depths : goal.overflow_add-depths
overflow_add-depths c =
    let bound : c.deepest_around-around.result ≤ length c.args.regions.now - c.loop-left.left
    = rest_within c.args.regions.now c.loop-left.depths c.loop-left.left c.deepest_around-around.result c.loop-left.invariant.size c.loop-left.invariant.below c.loop-left.invariant.filled c.deepest_around-around.ensures.within in
    omega (arith, bound)
