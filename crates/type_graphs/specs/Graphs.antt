-- Graphs as lists: to which nodes each one leads, by number from 0 (own).
use Rattle.std.specs.Prelude.{ℕ, List, [], get_or}

-- a number past the end leads nowhere
abbrev pub next_of : List (List ℕ) → ℕ → List ℕ
next_of graph k = get_or graph k []
