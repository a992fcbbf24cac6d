use Rattle.std.proofs.Common.{◌≡◌, ◌<◌, ℕ, true}
use Rattle.set_names.specs.Cycles.{any}
use Rattle.type_graphs.specs.Graphs.{next_of}
use Rattle.type_graphs.specs.Ranks.{has_no_rank}
use Rattle.type_graphs.proofs.ranking.all_lead_on.Given as goal

abbrev pub invariant-loop-k : goal.invariant-loop-k
invariant-loop-k l = (j : ℕ) → j < l.k → has_no_rank l.ranks j ≡ true → any (has_no_rank l.ranks) (next_of l.graph j) ≡ true
