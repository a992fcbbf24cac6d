use Rattle.std.proofs.Common.{arith}
use Rattle.cil_base.proofs.PieceLaws.{number_taken}
use Rattle.cil_base.proofs.bytes.push_number.Goals as goal

pub returns : goal.returns
returns c = let e = number_taken c.args.width c.args.n c.requires in grind (arith, e)
