use Rattle.run_unwind.proofs.throwing.land.Goals as goal

pub returns-in_ok-begin_catch-in-Catch : goal.returns-in_ok-begin_catch-in-Catch
returns-in_ok-begin_catch-in-Catch c fs below = rw c.in-Catch.is (rw c.program.ensures at (c.in_ok-begin_catch-in-Catch.ensures fs c.args.world.now))

pub returns-in_ok-begin_cleanup-in-Cleanup : goal.returns-in_ok-begin_cleanup-in-Cleanup
returns-in_ok-begin_cleanup-in-Cleanup c fs below = rw c.in-Cleanup.is (rw c.program-in-Cleanup.ensures at (c.in_ok-begin_cleanup-in-Cleanup.ensures fs c.args.world.now))
