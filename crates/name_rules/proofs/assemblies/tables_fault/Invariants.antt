use Rattle.set_blobs.proofs.PassLaws.{NoneBelow}
use Rattle.name_rules.specs.NameTests.{InAssembly}
use Rattle.name_rules.proofs.assemblies.tables_fault.Given as goal

-- nothing is broken in the tables before
abbrev pub invariant-loop-table : goal.invariant-loop-table
invariant-loop-table l = NoneBelow (InAssembly l.tables l.writes l.a) (λ r. r.table) l.table
