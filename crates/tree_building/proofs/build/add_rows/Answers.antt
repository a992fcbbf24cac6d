use Rattle.tree_building.proofs.RunLaws.{rows_more}
use Rattle.tree_building.proofs.build.add_rows.Goals as goal

pub loop-region-preserved : goal.loop-region-preserved
loop-region-preserved c = record {
  empty = c.in_ok-add_row.ensures.emptied;
  built = λ instrs nest valid start. rows_more instrs c.args.regions.now c.loop-region.region-index _ _ _ c.loop-region-test.true nest valid c.in_ok-add_row.ensures.added (c.loop-region.invariant.built instrs nest valid start);
}
