use Rattle.std.proofs.Common.{◌+◌}
use Rattle.set_blobs.specs.BadBlobs.{InTable}
use Rattle.set_blobs.proofs.PassLaws.{NoneBelow}
use Rattle.set_blobs.proofs.passes.rows_fault.Given as goal

-- nothing is broken in the rows before
abbrev pub invariant-loop-k : goal.invariant-loop-k
invariant-loop-k l = NoneBelow (InTable l.set l.a l.table) (λ r. r.row) (l.k + 1)
