use Rattle.std.proofs.lemmas.Result.{on_ok_weaker}
use Rattle.tree_building.proofs.MoveLaws.{longer}
use Rattle.tree_building.proofs.adding.add_handler.Goals as goal

pub returns-in_ok-push-in-Some : goal.returns-in_ok-push-in-Some
returns-in_ok-push-in-Some c =
    on_ok_weaker c.push-in-Some.result (λ e. longer c.args.region.now c.args.front.now c.pop.new.self c.push-in-Some.new.self c.in-Some.span c.args.blocks c.same_kind-kind.result c.push.new.self c.in-Some.ensures c.same_kind-kind.ensures c.in_ok-push-in-Some.ensures.ok e) c.push-in-Some.ensures.ok
