use Rattle.std.proofs.Common.{◌+◌}
use Rattle.cil_base.specs.Refusals.{First}
use Rattle.cil_base.proofs.RefusalLaws.{IfRefused-weaker}
use Rattle.body_rules.specs.Sets.{InAssembly, InRow}
use Rattle.body_rules.proofs.RowLaws.{row_more, row_first}
use Rattle.body_rules.proofs.rows.check_rows.Goals as goal

pub returns-in-Err-clause-refused : goal.returns-in-Err-clause-refused
returns-in-Err-clause-refused c =
    IfRefused-weaker c.in-Err.fault (First (InRow c.args.tables.now c.args.a (c.loop-k.k + 1))) (First (InAssembly c.args.tables.now c.args.a))
    (row_first c.args.tables.now c.args.a c.loop-k.k c.loop-k.invariant) c.in-Err.ensures.refused

pub loop-k-preserved : goal.loop-k-preserved
loop-k-preserved c = row_more c.args.tables.now c.args.a c.loop-k.k c.loop-k.invariant c.in-Ok.ensures.accepted
