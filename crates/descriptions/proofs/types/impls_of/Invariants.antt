use Rattle.std.proofs.Common.{◌≡◌, ◌++◌, drop}
use Rattle.set_types.specs.CodedTypes.{coded_of}
use Rattle.descriptions.specs.TypeFacts.{impls_by}
use Rattle.descriptions.proofs.types.impls_of.Given as goal

-- what is left of the rows
abbrev pub invariant-loop-k : goal.invariant-loop-k
invariant-loop-k l = l.impls ++ impls_by l.rows (coded_of l.coded) l.facts (drop l.k-index l.list) ≡ impls_by l.rows (coded_of l.coded) l.facts l.list
