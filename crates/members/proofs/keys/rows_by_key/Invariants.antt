use Rattle.std.proofs.Common.{◌≡◌, List, ℕ}
use Rattle.std.specs.Prelude.{find}
use Rattle.std.specs.List.{range_with_len}
use Rattle.set_names.specs.Names.{number_under}
use Rattle.set_names.specs.Names.{is_under}
use Rattle.members.proofs.keys.rows_by_key.Given as goal

abbrev pub invariant-loop-k : goal.invariant-loop-k
invariant-loop-k l = (name : List ℕ) → number_under l.found name ≡ find (is_under l.keys name) (range_with_len 1 l.k)
