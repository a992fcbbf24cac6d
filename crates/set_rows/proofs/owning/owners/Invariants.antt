use Rattle.std.proofs.Common.{◌≡◌, replicate}
use Rattle.set_rows.proofs.OwnerLaws.{Owned}
use Rattle.set_rows.proofs.owning.owners.Given as goal

abbrev pub invariant-loop-k : goal.invariant-loop-k
invariant-loop-k l = l.owners.items ≡ replicate l._k 0

-- by the types that were gone through
abbrev pub invariant-loop-k-2 : goal.invariant-loop-k-2
invariant-loop-k-2 l = Owned l.rows l.column l.table l.types l.k l.owners.items
