use Rattle.std.proofs.Common.{◌≡◌, ◌++◌, ◌+◌, ℕ, length}
use Rattle.std.specs.Prelude.{option_map}
use Rattle.set_names.specs.Paths.{path_within, next_in}
use Rattle.set_names.proofs.paths.path_of.Given as goal

-- what stands before, and the path of what is left
abbrev pub invariant-loop-k : goal.invariant-loop-k
invariant-loop-k l =
    (n : ℕ) → l._k + n ≡ length l.rows → option_map (λ rest. l.path.items ++ rest) (path_within (next_in l.rows) n l.at) ≡ path_within (next_in l.rows) (length l.rows) l.row
