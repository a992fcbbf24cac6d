use Rattle.run_unwind.proofs.throwing.throw_by_plan.Goals as goal

pub returns-in_ok-stands-in-InGroup : goal.returns-in_ok-stands-in-InGroup
returns-in_ok-stands-in-InGroup c fs below = rw c.in-InGroup.is (c.in_ok-stands-in-InGroup.ensures c.in-InGroup.field-2 c.args.exception fs below)

pub returns-in_ok-stands-in-Rest : goal.returns-in_ok-stands-in-Rest
returns-in_ok-stands-in-Rest c fs below = rw c.in-Rest.is (c.in_ok-stands-in-Rest.ensures c.in-Rest.field-0 fs below)
