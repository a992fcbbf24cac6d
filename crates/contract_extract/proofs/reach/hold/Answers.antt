use Rattle.std.proofs.Common.{arith}
use Rattle.contract_extract.proofs.ReachLaws.{put_more, put_none}
use Rattle.contract_extract.proofs.reach.hold.Goals as goal
use Rattle.contract_extract.proofs.reach.hold.Goals.{else-from-ends-via-then-from-ends+else-ends-from, else-from-ends-via-else-from-ends}

pub returns-then-ends-from : goal.returns-then-ends-from
returns-then-ends-from c = put_more c.args.ends.now c.args.from c.args.to c.if-from-ends.true c.if-ends-from.true

pub returns-else-from-ends : goal.returns-else-from-ends
returns-else-from-ends c =
    put_none c.args.ends.now c.args.from c.args.to
    (elim c.else-from-ends.branch [ else-from-ends-via-then-from-ends+else-ends-from w ↦ λ h. w.if-ends-from.false | else-from-ends-via-else-from-ends w ↦ λ h. absurd (omega (arith, w.if-from-ends.false, h)) ])
