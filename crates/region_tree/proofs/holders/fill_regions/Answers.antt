use Rattle.std.proofs.Common.{◌∙◌, length}
use Rattle.region_tree.proofs.HolderLaws.{next_holder}
use Rattle.region_tree.proofs.holders.fill_regions.Goals as goal

pub loop-k-preserved : goal.loop-k-preserved
loop-k-preserved c = record {
  size = c.fill_region.ensures.size;
  same = c.fill_region.ensures.same ∙ c.loop-k.invariant.same;
  jumps = c.fill_region.ensures.jumps;
  held = next_holder c.args.skip c.args.regions.now c.loop-k.k _ _ (length c.args.holders.now) _ c.loop-k-test.true c.loop-k.invariant.same c.fill_region.ensures.added c.loop-k.invariant.held;
}
