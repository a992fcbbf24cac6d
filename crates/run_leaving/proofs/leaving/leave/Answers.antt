use Rattle.std.proofs.Common.{◌∙◌}
use Rattle.run_leaving.proofs.LeaveLaws.{left_one}
use Rattle.run_leaving.proofs.leaving.leave.Goals as goal

pub returns-in_ok-begin_handler-in-Some : goal.returns-in_ok-begin_handler-in-Some
returns-in_ok-begin_handler-in-Some c fs =
    rw (c.program.ensures, c.clear.ensures) at (c.in_ok-begin_handler-in-Some.ensures fs c.args.world.now)
    ∙ left_one c.args.machine.now.program c.args.machine.now.contracts c.args.q c.args.to c.args.frame.now fs c.args.world.now c.args.skip (c.in-Some.number, c.in-Some.from) c.in-Some.ensures
