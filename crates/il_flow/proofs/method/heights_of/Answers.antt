use Rattle.il_flow.proofs.MeaningLaws.{has_heights, in_turn}
use Rattle.il_flow.proofs.method.heights_of.Goals as goal

pub returns-clause-heights : goal.returns-clause-heights
returns-clause-heights c = has_heights _ _ _ _ c.checked_heights.result c.in_default.ensures c.checked_heights.ensures.heights c.checked_heights.ensures.told

pub returns-clause-broken : goal.returns-clause-broken
returns-clause-broken c = in_turn c.checked_heights.result _ _ c.in_default.ensures c.checked_heights.ensures.broken
