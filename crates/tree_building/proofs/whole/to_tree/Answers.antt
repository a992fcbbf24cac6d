use Rattle.cil_base.specs.Refusals.{NoneBroken}
use Rattle.region_tree.specs.Rules.{BreaksControl}
use Rattle.tree_building.proofs.FitLaws.{nest_well, none_broken}
use Rattle.tree_building.proofs.whole.to_tree.Goals as goal

pub returns-in-Ok-clause-body : goal.returns-in-Ok-clause-body
returns-in-Ok-clause-body c =
    let none : NoneBroken (BreaksControl c.args.place c.args.body.now) = none_broken (BreaksControl c.args.place c.args.body.now) c.in-Ok-None.field-0 c.in-Ok-None.field-0-is c.in-Ok-None.ensures in
    λ valid. c.in-Ok.ensures.body (nest_well c.args.place c.args.body.now none) valid

pub returns-in-Ok-clause-search : goal.returns-in-Ok-clause-search
returns-in-Ok-clause-search c =
    let none : NoneBroken (BreaksControl c.args.place c.args.body.now) = none_broken (BreaksControl c.args.place c.args.body.now) c.in-Ok-None.field-0 c.in-Ok-None.field-0-is c.in-Ok-None.ensures in
    λ valid. c.in-Ok.ensures.search (nest_well c.args.place c.args.body.now none) valid
