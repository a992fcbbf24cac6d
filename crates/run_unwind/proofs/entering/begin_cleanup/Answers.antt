use Rattle.run_unwind.proofs.entering.begin_cleanup.Goals as goal

pub returns : goal.returns
returns c fs w = rw c.clear.ensures at (c.in_ok-begin_handler.ensures fs w)
