use Rattle.std.proofs.Common.{arith}
use Rattle.std.proofs.lemmas.Result.{on_ok_weaker}
use Rattle.tree_building.specs.Spans.{LastIs}
use Rattle.tree_building.proofs.MoveLaws.{one_back}
use Rattle.tree_building.proofs.moving.move_back.Goals as goal

pub returns-then-span-place-clause-front : goal.returns-then-span-place-clause-front
returns-then-span-place-clause-front c = on_ok_weaker c.push.result (λ e. LastIs.last c.pop.new.self c.in-Some.span e c.if-span-place.true) c.push.ensures.ok

pub returns-then-span-place-clause-back : goal.returns-then-span-place-clause-back
returns-then-span-place-clause-back c = on_ok_weaker c.push.result (λ e. c.loop-span.invariant.back) c.push.ensures.ok

pub loop-span-preserved : goal.loop-span-preserved
loop-span-preserved c = record {
  all = one_back c.loop-span.front c.pop.new.self c.loop-span.back c.push-in-Some.new.self _ c.in-Some.span c.in-Some.ensures c.in_ok-push.ensures.ok c.loop-span.invariant.all;
  back = λ h. LastIs.last c.loop-span.back c.in-Some.span c.in_ok-push.ensures.ok (omega (arith, c.if-span-place.false));
}
