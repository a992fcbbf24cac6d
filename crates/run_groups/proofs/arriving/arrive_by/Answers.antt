use Rattle.run_groups.proofs.arriving.arrive_by.Goals as goal

pub returns-in_ok-go_at-in-InGroup : goal.returns-in_ok-go_at-in-InGroup
returns-in_ok-go_at-in-InGroup c fs = rw c.in-InGroup.is (c.in_ok-go_at-in-InGroup.ensures fs c.args.world.now)

pub returns-in_ok-go_at-in-Rest : goal.returns-in_ok-go_at-in-Rest
returns-in_ok-go_at-in-Rest c fs = rw c.in-Rest.is (c.in_ok-go_at-in-Rest.ensures fs c.args.world.now)
