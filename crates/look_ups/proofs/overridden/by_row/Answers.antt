use Rattle.std.proofs.Common.{ap, length, arith}
use Rattle.look_ups.proofs.SourceLaws.{rows_end}
use Rattle.look_ups.proofs.overridden.by_row.Goals as goal

pub returns : goal.returns
returns c = rows_end c.args.program.now (c.args.ty.now, c.args.method) c.loop-row.row-index c.loop-row.found (omega (arith, c.loop-row-test.false, ap length c.impls_of-row-items.ensures)) c.loop-row.invariant
