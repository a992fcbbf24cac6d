use Rattle.std.proofs.Common.{◌≡◌, replicate}
use Rattle.member_tests.proofs.maps.no_maps.Given as goal

abbrev pub invariant-loop-k : goal.invariant-loop-k
invariant-loop-k l = l.maps.items ≡ replicate l._k 0
