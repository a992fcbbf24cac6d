use Rattle.std.proofs.Common.{◌≡◌, drop}
use Rattle.set_names.specs.Cycles.{any}
use Rattle.type_graphs.specs.Ranks.{has_no_rank}
use Rattle.type_graphs.proofs.ranking.leads_on.Given as goal

abbrev pub invariant-loop-node : goal.invariant-loop-node
invariant-loop-node l = any (has_no_rank l.ranks) (drop l.node-index l.nodes) ≡ any (has_no_rank l.ranks) l.nodes
