use Rattle.std.proofs.Common.{◌+◌}
use Rattle.cil_base.specs.Refusals.{First}
use Rattle.cil_base.proofs.RefusalLaws.{IfRefused-weaker}
use Rattle.body_rules.specs.Sets.{InAssembly, InRow}
use Rattle.body_rules.proofs.RowLaws.{one_more, first_row}
use Rattle.body_rules.proofs.rows.assembly_bodies.Goals as goal

pub returns-in-Err-clause-refused : goal.returns-in-Err-clause-refused
returns-in-Err-clause-refused c =
    IfRefused-weaker c.in-Err.fault (First (InRow c.args.tables.now c.args.a (c.loop-k.k + 1))) (First (InAssembly c.args.tables.now c.args.a))
    (first_row c.args.tables.now c.args.a c.loop-k.k c.loop-k.bodies.items c.loop-k.invariant) c.in-Err.ensures.refused

pub loop-k-preserved : goal.loop-k-preserved
loop-k-preserved c =
    one_more c.args.tables.now c.args.a c.loop-k.k c.loop-k.bodies.items c.loop-k.invariant c.push_body.new.bodies.items c.in-Ok.body c.in_ok-push_body-in-Ok.ensures c.in-Ok.ensures.body c.in-Ok.ensures.valid c.in-Ok.ensures.plain c.in-Ok.ensures.sound c.in-Ok.ensures.accepted
