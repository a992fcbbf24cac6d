use Rattle.type_graphs.specs.Ranks.{AreRanks}
use Rattle.type_graphs.proofs.ranking.rank_each.Given as goal

abbrev pub invariant-loop-node : goal.invariant-loop-node
invariant-loop-node l = AreRanks l.graph l.ranks
