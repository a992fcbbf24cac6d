use Rattle.std.proofs.Common.{sym}
use Rattle.il_code.proofs.PlaceLaws.{end_there}
use Rattle.il_code.proofs.targets.end_index_in.Goals as goal

pub returns-then-at-size : goal.returns-then-at-size
returns-then-at-size c = sym (end_there c.args.offsets.now c.args.size c.args.at (sym c.in-None.ensures) (sym c.if-at-size.true))
