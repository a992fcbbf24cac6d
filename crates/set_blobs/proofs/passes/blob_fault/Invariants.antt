use Rattle.set_blobs.specs.BadBlobs.{BreaksBlobs}
use Rattle.set_blobs.proofs.PassLaws.{NoneBelow}
use Rattle.set_blobs.proofs.passes.blob_fault.Given as goal

-- nothing is broken in the assemblies before
abbrev pub invariant-loop-a : goal.invariant-loop-a
invariant-loop-a l = NoneBelow (BreaksBlobs l.set) (λ r. r.assembly) l.a
