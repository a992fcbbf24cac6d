use Rattle.std.proofs.Common.{◌≡◌, ◌++◌, drop}
use Rattle.std.specs.Prelude.{map}
use Rattle.contract_extract.specs.OwnContract.{clause_of, clauses_in}
use Rattle.contract_extract.proofs.block.Block.clauses.Given as goal

abbrev pub invariant-loop-one : goal.invariant-loop-one
invariant-loop-one l = l.out ++ map (clause_of l.self) (drop l.one-index l.one-items) ≡ map (clause_of l.self) (clauses_in l.self)
