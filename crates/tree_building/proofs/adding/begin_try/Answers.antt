use Rattle.std.proofs.lemmas.Result.{on_ok_weaker}
use Rattle.tree_building.proofs.MoveLaws.{begun}
use Rattle.tree_building.proofs.adding.begin_try.Goals as goal

pub returns-clause-begun : goal.returns-clause-begun
returns-clause-begun c =
    on_ok_weaker c.push-2.result (λ e. begun c.args.region.now c.args.front.now c.move_back.new.front c.move_back.new.back c.push-2.new.self _ c.args.blocks c.in_ok-inner.inner c.same_kind-kind.result c.push.new.self _ c.requires c.in_ok-move_back.ensures.all c.in_ok-move_back.ensures.front c.in_ok-move_back.ensures.back c.in_ok-inner.ensures.blocks c.same_kind-kind.ensures c.new-handlers.ensures c.in_ok-push.ensures.ok e) c.push-2.ensures.ok
