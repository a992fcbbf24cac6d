use Rattle.std.proofs.Common.{◌≡◌, ◌<◌, length, subst}
use Rattle.contract_extract.proofs.LocalLaws.{listed_more}
use Rattle.contract_extract.proofs.locals.Locals.listed.Goals as goal

pub loop-n-preserved : goal.loop-n-preserved
loop-n-preserved c =
    let within : c.loop-n.n < length c.args.self.now = subst (λ m. c.loop-n.n < m) c.len-n-end.ensures c.loop-n-test.true in
    listed_more c.args.self.now c.loop-n.out.items c.push.new.self.items c.loop-n.n c.at.result within c.at.ensures c.loop-n.invariant c.in_ok-push.ensures.items
