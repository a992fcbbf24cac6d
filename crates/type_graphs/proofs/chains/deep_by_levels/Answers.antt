use Rattle.std.proofs.Common.{◌∙◌}
use Rattle.type_graphs.proofs.ListLaws.{level_first, level_more}
use Rattle.type_graphs.proofs.chains.deep_by_levels.Goals as goal

pub loop-steps-init : goal.loop-steps-init
loop-steps-init c = level_first c.args.graph.now c.in_ok-level.level.items (c.in_ok-level.ensures.items_if_clones_equal (λ y e. cc))

pub loop-steps-preserved : goal.loop-steps-preserved
loop-steps-preserved c = c.in_ok-level-2.ensures ∙ level_more c.args.graph.now c.deref.result.now c.loop-steps.steps (c.deref.ensures.value ∙ c.loop-steps.invariant)
