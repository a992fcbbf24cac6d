use Rattle.look_ups.proofs.ListLaws.{past}
use Rattle.look_ups.proofs.types.argument_or.Goals as goal

pub returns-in-None : goal.returns-in-None
returns-in-None c = past c.args.args.now c.args.k c.args.parameter c.in-None.ensures
