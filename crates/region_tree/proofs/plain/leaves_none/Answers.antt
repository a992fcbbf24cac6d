use Rattle.std.proofs.Common.{arith, ◌∙◌, ◌<◌, length, sym}
use Rattle.cil_base.proofs.Small.{not_true}
use Rattle.region_tree.proofs.OrderLaws.{none_to_leave, none_left}
use Rattle.region_tree.proofs.plain.leaves_none.Goals as goal

pub returns-then-number-eq0 : goal.returns-then-number-eq0
returns-then-number-eq0 c =
    let less : c.args.at < length c.args.holders.now = omega arith in
    λ e. none_to_leave c.args.regions.now c.args.holders.now c.args.at c.args.to c.requires.order c.requires.holders less c.if-number-eq0.true

pub returns-then-number-regions : goal.returns-then-number-regions
returns-then-number-regions c =
    let less : c.args.at < length c.args.holders.now = omega arith in
    λ e. none_left c.args.regions.now c.args.holders.now c.args.at c.args.to _ c.requires.order c.requires.holders less (sym c.goes_out.ensures ∙ not_true c.goes_out.result e)
