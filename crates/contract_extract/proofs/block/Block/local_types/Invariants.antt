use Rattle.std.proofs.Common.{◌≡◌, ◌++◌, drop}
use Rattle.std.specs.List.{filter_map}
use Rattle.contract_extract.specs.Clauses.{local_type}
use Rattle.contract_extract.proofs.block.Block.local_types.Given as goal

abbrev pub invariant-loop-k : goal.invariant-loop-k
invariant-loop-k l = l.out ++ filter_map (local_type l.self) (drop l.k-index l.k-items) ≡ filter_map (local_type l.self) l.locals
