use Rattle.std.proofs.Common.{◌∙◌, []}
use Rattle.cil_semantics.specs.State.{with_stack}
use Rattle.cil_semantics.specs.Unwind.{moved_to, plan_at}
use Rattle.run_leaving.proofs.LeaveLaws.{local_same}
use Rattle.run_leaving.proofs.leaving.arrive_empty.Goals as goal

pub returns : goal.returns
returns c fs =
    rw (c.moved_to-at.ensures, c.clear.ensures) at (c.in_ok-arrive.ensures fs)
    ∙ local_same c.args.machine.now.program (plan_at c.args.machine.now.contracts c.args.machine.now.program c.args.frame.now.method) c.args.frame.now (moved_to c.args.to c.args.frame.now.at) (with_stack c.args.frame.now.local []) c.args.frame.now.handling fs c.args.world.now
