use Rattle.set_blobs.specs.BadBlobs.{InAssembly}
use Rattle.set_blobs.proofs.PassLaws.{NoneBelow}
use Rattle.set_blobs.proofs.passes.tables_fault.Given as goal

-- nothing is broken in the tables before
abbrev pub invariant-loop-table : goal.invariant-loop-table
invariant-loop-table l = NoneBelow (InAssembly l.set l.a) (λ r. r.table) l.table
