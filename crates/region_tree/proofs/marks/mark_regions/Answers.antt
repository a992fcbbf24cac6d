use Rattle.region_tree.proofs.MarkLaws.{marks_more}
use Rattle.region_tree.proofs.marks.mark_regions.Goals as goal

pub loop-region-preserved : goal.loop-region-preserved
loop-region-preserved c = marks_more c.args.regions.now c.loop-region.region-index _ _ c.loop-region.marks c.mark_region.new.marks c.loop-region-test.true c.loop-region.invariant c.mark_region.ensures
