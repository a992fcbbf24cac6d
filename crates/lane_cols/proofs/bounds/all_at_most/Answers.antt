use Rattle.std.proofs.Common.{◌≡◌, ◌-◌, leb, length, length-drop, ◌&&◌, take, drop, take_all, sym, ap, ◌∙◌, arith}
use Rattle.std.specs.List.{list_all}
use Rattle.lane_cols.proofs.BoundLaws.{full_block, broken_block, all_parts}
use Rattle.lane_cols.proofs.bounds.all_at_most.Goals as goal

pub returns-then-count_below-ne8 : goal.returns-then-count_below-ne8
returns-then-count_below-ne8 c = sym (broken_block (λ x. leb x c.args.bound) c.loop-at.at 8 c.args.col.now (omega arith) (λ e. c.if-count_below-ne8.true (c.count_below.ensures ∙ e)))

pub loop-at-preserved : goal.loop-at-preserved
loop-at-preserved c = record {
  within = omega arith;
  below = full_block (λ x. leb x c.args.bound) c.loop-at.at 8 c.args.col.now (omega arith) c.loop-at.invariant.below (sym c.count_below.ensures ∙ c.if-count_below-ne8.false);
}

pub returns : goal.returns
returns c =
    let rest : take (length c.args.col.now - c.loop-at.at) (drop c.loop-at.at c.args.col.now) ≡ drop c.loop-at.at c.args.col.now = take_all (length c.args.col.now - c.loop-at.at) (drop c.loop-at.at c.args.col.now) (omega (arith, length-drop c.loop-at.at c.args.col.now)) in
    c.each_at_most.ensures ∙ ap (list_all (λ x. leb x c.args.bound)) rest
    ∙ sym (all_parts (λ x. leb x c.args.bound) c.loop-at.at c.args.col.now ∙ ap (λ b. b && list_all (λ x. leb x c.args.bound) (drop c.loop-at.at c.args.col.now)) c.loop-at.invariant.below)
