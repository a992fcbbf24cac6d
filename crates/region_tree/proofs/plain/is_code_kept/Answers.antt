use Rattle.std.proofs.Common.{refl}
use Rattle.region_tree.proofs.PlainLaws.{kept_more}
use Rattle.region_tree.proofs.plain.is_code_kept.Goals as goal

pub loop-k-preserved : goal.loop-k-preserved
loop-k-preserved c =
    kept_more c.args.regions.now c.args.instrs.now c.loop-k.k c.index-instrs-k.result c.loop-k-test.true c.index-instrs-k.is (c.if-not-is_kept.ensures.edges refl, c.if-not-is_kept.ensures.place refl) c.loop-k.invariant
