use Rattle.set_blobs.proofs.PassLaws.{NoneBelow}
use Rattle.name_rules.specs.NameTests.{BreaksNames}
use Rattle.name_rules.proofs.assemblies.assemblies_fault.Given as goal

-- nothing is broken in the assemblies before
abbrev pub invariant-loop-a : goal.invariant-loop-a
invariant-loop-a l = NoneBelow (BreaksNames l.tables l.writes) (λ r. r.assembly) l.a
