use Rattle.std.proofs.lemmas.Result.{on_ok_weaker}
use Rattle.tree_building.specs.Spans.{LastIs}
use Rattle.tree_building.proofs.moving.move_front.Goals as goal

pub returns-then-place-span-clause-back : goal.returns-then-place-span-clause-back
returns-then-place-span-clause-back c = on_ok_weaker c.push.result (λ e. LastIs.last c.pop.new.self c.in-Some.span e c.if-place-span.true) c.push.ensures.ok
