use Rattle.std.proofs.Common.{◌≡◌, ◌++◌, drop}
use Rattle.set_types.specs.CodedTypes.{coded_of}
use Rattle.descriptions.specs.TypeFacts.{interfaces_by}
use Rattle.descriptions.proofs.types.interfaces_of.Given as goal

-- what is left of the rows
abbrev pub invariant-loop-k : goal.invariant-loop-k
invariant-loop-k l = l.tys ++ interfaces_by l.rows (coded_of l.coded) (drop l.k-index l.list) ≡ interfaces_by l.rows (coded_of l.coded) l.list
