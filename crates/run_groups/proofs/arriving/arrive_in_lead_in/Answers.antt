use Rattle.run_groups.proofs.arriving.arrive_in_lead_in.Goals as goal

pub returns-in_ok-begin_entry : goal.returns-in_ok-begin_entry
returns-in_ok-begin_entry c fs = rw (← c.is_lead_end.ensures, c.if-is_lead_end.true) (c.in_ok-begin_entry.ensures fs)

pub returns-in_ok-go_at : goal.returns-in_ok-go_at
returns-in_ok-go_at c fs = rw (← c.is_lead_end.ensures, c.if-is_lead_end.false) (c.in_ok-go_at.ensures fs c.args.world.now)
