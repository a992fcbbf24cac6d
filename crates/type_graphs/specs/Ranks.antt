-- Ranks: the number of nodes on the longest chain from a node (own).
use Rattle.std.specs.Prelude.{◌≡◌, ℕ, ◌==◌, nat_lt, Bool, true, false, List, length, get_or}
use Rattle.set_names.specs.Cycles.{any, is_deep}
use Rattle.type_graphs.specs.Graphs.{next_of}

-- the rank of a node, 0 where none is known
abbrev pub rank_in : List ℕ → ℕ → ℕ
rank_in ranks k = get_or ranks k 1

abbrev pub has_no_rank : List ℕ → ℕ → Bool
has_no_rank ranks k = rank_in ranks k == 0

abbrev pub is_above : List ℕ → ℕ → ℕ → Bool
is_above ranks d k = nat_lt d (rank_in ranks k)

-- where there is a rank, fewer steps than it lead on
pub record AreRanks (graph : List (List ℕ)) (ranks : List ℕ) : Type 0 where
  pub size : length ranks ≡ length graph
  pub exact : (k d : ℕ) → has_no_rank ranks k ≡ false → is_deep (next_of graph) d k ≡ is_above ranks d k

-- what has no rank leads to what has none
pub record LeadOn (graph : List (List ℕ)) (ranks : List ℕ) : Type 0 where
  pub leads : (k : ℕ) → has_no_rank ranks k ≡ true → any (has_no_rank ranks) (next_of graph k) ≡ true
