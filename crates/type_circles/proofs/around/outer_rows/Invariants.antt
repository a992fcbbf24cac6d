use Rattle.std.proofs.Common.{◌≡◌, replicate}
use Rattle.set_program.proofs.NestingLaws.{Outer}
use Rattle.type_circles.proofs.around.outer_rows.Given as goal

abbrev pub invariant-loop-k : goal.invariant-loop-k
invariant-loop-k l = l.outer.items ≡ replicate l._k 0

-- by the rows that were gone through
abbrev pub invariant-loop-k-2 : goal.invariant-loop-k-2
invariant-loop-k-2 l = Outer l.count l.nestings l.k l.rows l.outer.items
