use Rattle.std.proofs.Common.{◌≡◌}
use Rattle.type_graphs.specs.Levels.{level_of}
use Rattle.type_graphs.proofs.chains.deep_by_levels.Given as goal

abbrev pub invariant-loop-steps : goal.invariant-loop-steps
invariant-loop-steps l = l.level.items ≡ level_of l.graph l.steps
