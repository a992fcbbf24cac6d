use Rattle.std.proofs.lemmas.Result.{on_ok_weaker}
use Rattle.tree_building.proofs.RunLaws.{begins_try, ends_longer, moved}
use Rattle.tree_building.proofs.adding.add_row.Goals as goal

pub returns-then-region-clause-added : goal.returns-then-region-clause-added
returns-then-region-clause-added c =
    let m = moved c.args.region.now c.args.front.now c.args.back.now c.move_front.new.front c.move_front.new.back c.move_back.new.front c.move_back.new.back c.move_back-2.new.front _ c.move_back-2.new.back c.in_ok-move_front.ensures.all c.in_ok-move_front.ensures.back c.in_ok-move_back.ensures.all c.in_ok-move_back.ensures.front c.in_ok-move_back.ensures.back c.requires c.in_ok-move_back-2.ensures.all c.in_ok-move_back-2.ensures.front c.in_ok-move_back-2.ensures.back in
    on_ok_weaker c.begin_try.result (λ x. begins_try c.args.region.now _ c.move_back-2.new.front c.move_back-2.new.back c.move_back.new.back c.begin_try.new.front c.in_ok-blocks.blocks m c.in_ok-blocks.ensures.blocks c.if-region.true x) c.begin_try.ensures.begun

pub returns-clause-added : goal.returns-clause-added
returns-clause-added c =
    let m = moved c.args.region.now c.args.front.now c.args.back.now c.move_front.new.front c.move_front.new.back c.move_back.new.front c.move_back.new.back c.move_back-2.new.front _ c.move_back-2.new.back c.in_ok-move_front.ensures.all c.in_ok-move_front.ensures.back c.in_ok-move_back.ensures.all c.in_ok-move_back.ensures.front c.in_ok-move_back.ensures.back c.requires c.in_ok-move_back-2.ensures.all c.in_ok-move_back-2.ensures.front c.in_ok-move_back-2.ensures.back in
    on_ok_weaker c.add_handler.result (λ x. ends_longer c.args.region.now _ c.move_back-2.new.front c.move_back-2.new.back c.move_back.new.back c.add_handler.new.front c.in_ok-blocks.blocks m c.in_ok-blocks.ensures.blocks c.if-region.false x) c.add_handler.ensures
