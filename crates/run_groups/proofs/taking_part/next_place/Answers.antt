use Rattle.cil_semantics.specs.Unwind.{takes_part}
use Rattle.run_groups.proofs.SkipLaws.{first_of_rest}
use Rattle.run_groups.proofs.taking_part.next_place.Goals as goal

pub loop-k-init : goal.loop-k-init
loop-k-init c fs = first_of_rest (takes_part c.args.program.now c.args.frame.now fs c.args.world.now) c.args.skip c.args.pieces.now
