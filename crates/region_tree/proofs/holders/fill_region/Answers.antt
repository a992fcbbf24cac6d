use Rattle.std.proofs.Common.{refl}
use Rattle.region_tree.proofs.HolderLaws.{adds_holder}
use Rattle.region_tree.proofs.holders.fill_region.Goals as goal

pub returns-clause-added : goal.returns-clause-added
returns-clause-added c =
    adds_holder c.args.skip c.args.region.now c.args.number c.args.holders.now c.fill_part.new.holders c.fill_part-2.new.holders _ refl c.requires.some c.fill_part.ensures.filled c.fill_part-2.ensures.filled
