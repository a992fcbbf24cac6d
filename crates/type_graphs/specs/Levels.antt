-- From which nodes so many steps lead, as a list by node (own).
use Rattle.std.specs.Prelude.{ℕ, Bool, List, length, get_or, map}
use Rattle.std.specs.List.{range_with_len}
use Rattle.set_names.specs.Cycles.{is_deep}
use Rattle.type_graphs.specs.Graphs.{next_of}

abbrev pub level_of : List (List ℕ) → ℕ → List Bool
level_of graph d = map (is_deep (next_of graph) d) (range_with_len 0 (length graph))

abbrev pub is_in : List Bool → Bool → ℕ → Bool
is_in level past k = get_or level k past
