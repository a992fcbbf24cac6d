use Rattle.std.proofs.Common.{◌≡◌, drop, ℕ, nat_lt}
use Rattle.std.specs.Prelude.{◌||◌}
use Rattle.set_names.specs.Cycles.{any}
use Rattle.type_graphs.specs.Ranks.{has_no_rank, is_above}
use Rattle.type_graphs.proofs.ranking.highest_rank.Given as goal

abbrev pub invariant-loop-node : goal.invariant-loop-node
invariant-loop-node l = record {
  ranked : any (has_no_rank l.ranks) (drop l.node-index l.nodes) ≡ any (has_no_rank l.ranks) l.nodes;
  best : (d : ℕ) → (nat_lt d l.best || any (is_above l.ranks d) (drop l.node-index l.nodes)) ≡ any (is_above l.ranks d) l.nodes;
}
