use Rattle.std.proofs.Common.{◌∙◌, sym}
use Rattle.run_groups.proofs.EntryLaws.{passed_over}
use Rattle.run_groups.proofs.beginning.begin_entry.Goals as goal

pub returns-in-None : goal.returns-in-None
returns-in-None c fs =
    c.go_to_rest.ensures fs c.args.world.now
    ∙ passed_over c.args.program.now c.args.plan.now c.args.frame.now fs c.args.world.now (sym c.in-None.is ∙ c.in_ok-place_of_entry.ensures fs)
