use Rattle.std.proofs.Common.{◌≡◌, ◌++◌, drop}
use Rattle.std.specs.Prelude.{map}
use Rattle.contract_extract.specs.OwnContract.{inline_clause, inlines}
use Rattle.contract_extract.proofs.block.Block.asserts.Given as goal

abbrev pub invariant-loop-one : goal.invariant-loop-one
invariant-loop-one l = l.out ++ map (inline_clause l.self) (drop l.one-index l.calls) ≡ map (inline_clause l.self) (inlines l.self)
