use Rattle.std.proofs.Common.{refl}
use Rattle.contract_extract.specs.Reach.{crossed_over}
use Rattle.contract_extract.proofs.ReachLaws.{told_more}
use Rattle.contract_extract.proofs.reach.hold_branches.Goals as goal

pub loop-target-preserved : goal.loop-target-preserved
loop-target-preserved c =
    told_more _ _ _ (crossed_over c.args.at) c.as_slice-target-items.result.now c.loop-target.target-index _ c.loop-target-test.true refl c.loop-target.invariant c.hold_branch-in-loop-target.ensures
