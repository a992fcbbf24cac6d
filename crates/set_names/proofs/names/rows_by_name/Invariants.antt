use Rattle.std.proofs.Common.{◌≡◌, List, ℕ}
use Rattle.std.specs.Prelude.{find}
use Rattle.std.specs.List.{range_with_len}
use Rattle.set_names.specs.Names.{number_under, is_under}
use Rattle.set_names.proofs.names.rows_by_name.Given as goal

abbrev pub invariant-loop-k : goal.invariant-loop-k
invariant-loop-k l = (name : List ℕ) → number_under l.rows name ≡ find (is_under l.names name) (range_with_len 1 l.k)
