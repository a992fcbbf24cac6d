use Rattle.member_tests.proofs.MapLaws.{Mapped}
use Rattle.member_tests.proofs.maps.property_maps.Given as goal

-- by the owners that were gone through
abbrev pub invariant-loop-k : goal.invariant-loop-k
invariant-loop-k l = Mapped l.rows l.owners l.k l.maps.items
