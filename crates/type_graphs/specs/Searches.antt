-- A search through a graph: which nodes are seen, and these in the order in which they are found (own).
use Rattle.std.specs.Prelude.{ℕ, Bool, true, not, nat_lt, List, [], ◌∷◌, ◌++◌, length, get_or, set, if◌then◌else◌}
use Rattle.type_graphs.specs.Graphs.{next_of}

abbrev pub Found : Type 0
Found = List Bool × List ℕ

abbrev pub is_unseen : List Bool → ℕ → Bool
is_unseen seen k = not (get_or seen k true)

-- one node is seen besides
abbrev pub with_node : Found → ℕ → Found
with_node s k = if is_unseen s.0 k then (set s.0 k true, s.1 ++ k ∷ []) else s

abbrev pub with_nodes : Found → List ℕ → Found
with_nodes s [] = s
with_nodes s (k ∷ ks) = with_nodes (with_node s k) ks

-- those are seen besides that the node at a place leads to
abbrev pub with_next : List (List ℕ) → Found → ℕ → Found
with_next graph s place = if nat_lt place (length s.1) then with_nodes s (next_of graph (get_or s.1 place 0)) else s
