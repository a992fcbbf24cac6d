use Rattle.std.proofs.Common.{◌≡◌, [], length, get_or}
use Rattle.std.specs.Prelude.{map}
use Rattle.std.specs.List.{range_with_len}
use Rattle.member_rules.proofs.generic_params.lengths.Given as goal

abbrev pub invariant-loop-k : goal.invariant-loop-k
invariant-loop-k l = l.lengths ≡ map (λ n. length (get_or l.lists n [])) (range_with_len 0 l.k)
