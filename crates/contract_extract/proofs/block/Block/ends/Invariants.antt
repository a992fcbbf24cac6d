use Rattle.std.proofs.Common.{◌≡◌, ◌++◌, drop}
use Rattle.std.specs.List.{filter_map}
use Rattle.contract_parts.specs.Parts.{segments}
use Rattle.contract_extract.specs.OwnContract.{ended}
use Rattle.contract_extract.proofs.block.Block.ends.Given as goal

abbrev pub invariant-loop-segment : goal.invariant-loop-segment
invariant-loop-segment l = l.out.items ++ filter_map (ended l.self) (drop l.segment-index l.parts) ≡ filter_map (ended l.self) (segments l.self)
