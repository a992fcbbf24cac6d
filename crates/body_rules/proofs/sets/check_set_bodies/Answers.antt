use Rattle.cil_base.specs.Refusals.{First}
use Rattle.cil_base.proofs.RefusalLaws.{IfRefused-weaker}
use Rattle.body_rules.specs.Sets.{BreaksBodies, InAssembly}
use Rattle.body_rules.proofs.RowLaws.{assembly_more, assembly_first}
use Rattle.body_rules.proofs.sets.check_set_bodies.Goals as goal

pub returns-in-Err-clause-refused : goal.returns-in-Err-clause-refused
returns-in-Err-clause-refused c =
    IfRefused-weaker c.in-Err.fault (First (InAssembly c.args.tables.now c.loop-a.a)) (First (BreaksBodies c.args.tables.now))
    (assembly_first c.args.tables.now c.loop-a.a c.loop-a.invariant) c.in-Err.ensures.refused

pub loop-a-preserved : goal.loop-a-preserved
loop-a-preserved c = assembly_more c.args.tables.now c.loop-a.a c.loop-a.invariant c.in-Ok.ensures.accepted
