use Rattle.contract_extract.proofs.ReachLaws.{parts_more}
use Rattle.contract_extract.proofs.reach.hold_regions.Goals as goal

pub loop-region-preserved : goal.loop-region-preserved
loop-region-preserved c = parts_more _ _ _ c.args.regions.now c.loop-region.region-index _ c.loop-region-test.true c.loop-region.invariant c.hold_region.ensures
