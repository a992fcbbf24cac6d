use Rattle.std.proofs.Common.{ap, arith, length}
use Rattle.cil_model.specs.declared.tree.Block.{Block}
use Rattle.region_tree.specs.Trees.{part}
use Rattle.body_tree.proofs.DivisionLaws.{code_up_to}
use Rattle.body_tree.proofs.wrapping.division_at.Goals as goal

pub loop-k-preserved : goal.loop-k-preserved
loop-k-preserved c =
    let more = code_up_to c.args.blocks.now c.loop-k.k c.index-blocks-k.result c.loop-k-test.true in
    let same = ap (λ (b : Block). length (part b).code) c.index-blocks-k.is in
    record {
      at = omega (arith, c.in_ok-end.ensures, c.loop-k.invariant.at, more, same);
      within = omega (arith, c.if-from-end.false);
    }
