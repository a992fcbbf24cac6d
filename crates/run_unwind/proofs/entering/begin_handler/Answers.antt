use Rattle.run_unwind.proofs.entering.begin_handler.Goals as goal

pub returns : goal.returns
returns c fs w = rw (c.moved_to-at.ensures, c.in_ok-push.ensures.ok, c.in_ok-handling.ensures) at (c.in_ok-go_at.ensures fs w)
