use Rattle.set_rows.specs.Owners.{IsFilled}
use Rattle.member_tests.proofs.maps.fill.Given as goal

abbrev pub invariant-loop-i : goal.invariant-loop-i
invariant-loop-i l = IsFilled l.initial.maps.items l.maps.items l.from l.i l.row
