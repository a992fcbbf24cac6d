use Rattle.std.proofs.Common.{subst, sym, List}
use Rattle.il_flow.specs.Boundaries.{Places}
use Rattle.il_flow.proofs.ReachLaws.{flat_last}
use Rattle.contract_extract.specs.Reach.{crossed_ranges, TellsMore}
use Rattle.contract_extract.proofs.ReachLaws.{tells_both}
use Rattle.contract_extract.proofs.reach.hold_code.Goals as goal

pub loop-k-preserved : goal.loop-k-preserved
loop-k-preserved c =
    let i = c.index-instrs-k.result in
    subst (λ (l : List Places). TellsMore c.args.ends.now c.hold_branches.new.ends l) (sym (flat_last crossed_ranges c.args.instrs.now c.loop-k.k i c.loop-k-test.true))
    (tells_both _ _ _ _ _ c.loop-k.invariant c.hold_branches.ensures)
