use Rattle.std.proofs.Common.{ap, length, arith}
use Rattle.region_tree.proofs.NestingLaws.{length_depths}
use Rattle.region_tree.proofs.rules.nesting_fault.Goals as goal

pub bounds-depths-k : goal.bounds-depths-k
bounds-depths-k c = omega (arith, ap length c.requires, ap length c.as_slice-regions.ensures, length_depths c.args.body.now.regions)
