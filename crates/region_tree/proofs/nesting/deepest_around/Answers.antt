use Rattle.std.proofs.Common.{◌∙◌, ◌<◌, length, arith}
use Rattle.region_tree.proofs.NestingLaws.{deepest_with, deepest_without, within_all}
use Rattle.region_tree.proofs.nesting.deepest_around.Goals as goal
use Rattle.region_tree.proofs.nesting.deepest_around.Goals.{then-is_nested, else-is_nested}

pub loop-k-preserved : goal.loop-k-preserved
loop-k-preserved c =
    let here : c.loop-k.k < length c.args.depths.now = omega (arith, c.requires) in
    elim c.if-is_nested.branch [
      | then-is_nested w ↦ deepest_with c.args.region.now c.args.others.now c.args.depths.now c.loop-k.k _ c.is_nested.result c.loop-k.deepest c.if-is_nested.deepest _ c.loop-k-test.true here c.is_nested.ensures w.if-is_nested.true (w.deepest-is ∙ w.max-deepest.ensures) c.loop-k.invariant
      | else-is_nested w ↦ deepest_without c.args.region.now c.args.others.now c.args.depths.now c.loop-k.k _ c.is_nested.result c.loop-k.deepest c.if-is_nested.deepest _ c.loop-k-test.true here c.is_nested.ensures w.if-is_nested.false w.deepest-is c.loop-k.invariant
    ]

pub returns-clause-within : goal.returns-clause-within
returns-clause-within c = λ e. within_all c.args.region.now c.args.others.now c.args.depths.now c.loop-k.deepest _ c.loop-k.invariant e
