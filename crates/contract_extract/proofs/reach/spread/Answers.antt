use Rattle.contract_extract.proofs.ReachLaws.{spread_more}
use Rattle.contract_extract.proofs.reach.spread.Goals as goal

pub loop-q-preserved : goal.loop-q-preserved
loop-q-preserved c =
    let inv = c.loop-q.invariant in
    let more = spread_more c.args.ends.now c.loop-q.q c.loop-q.farthest c.max-farthest.result c.loop-q.out.items c.push.new.self.items c.loop-q-test.true inv.far c.max-farthest.ensures inv.told c.in_ok-push.ensures.items in
    record { far = more.0; told = more.1 }
