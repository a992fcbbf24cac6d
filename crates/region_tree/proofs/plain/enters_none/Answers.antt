use Rattle.std.proofs.Common.{arith, ◌∙◌, ◌<◌, length, sym}
use Rattle.cil_base.proofs.Small.{not_true}
use Rattle.region_tree.proofs.OrderLaws.{none_to_enter, none_entered}
use Rattle.region_tree.proofs.plain.enters_none.Goals as goal

pub returns-then-number-eq0 : goal.returns-then-number-eq0
returns-then-number-eq0 c =
    let less : c.args.to < length c.args.holders.now = omega arith in
    λ e. none_to_enter c.args.regions.now c.args.holders.now c.args.at c.args.to c.requires.order c.requires.holders less c.if-number-eq0.true

pub returns-then-number-regions : goal.returns-then-number-regions
returns-then-number-regions c =
    let less : c.args.to < length c.args.holders.now = omega arith in
    λ e. none_entered c.args.regions.now c.args.holders.now c.args.at c.args.to _ c.requires.order c.requires.holders less (sym c.goes_in.ensures ∙ not_true c.goes_in.result e)
