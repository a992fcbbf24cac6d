use Rattle.std.proofs.Common.{◌≡◌, ◌++◌, ◌+◌, ℕ}
use Rattle.std.specs.Prelude.{option_map}
use Rattle.set_names.specs.Paths.{path_within}
use Rattle.set_program.specs.TypeRules.{outer_export}
use Rattle.type_table.proofs.exports.export_path.Given as goal

-- what stands before, and the path of what is left
abbrev pub invariant-loop-k : goal.invariant-loop-k
invariant-loop-k l =
    (n : ℕ) → l._k + n ≡ l.most → option_map (λ rest. l.path.items ++ rest) (path_within (outer_export l.part) n l.at) ≡ path_within (outer_export l.part) l.most l.row
