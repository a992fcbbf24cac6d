use Rattle.std.proofs.Common.{◌≡◌, ◌++◌, drop}
use Rattle.std.specs.Prelude.{map}
use Rattle.contract_extract.specs.OwnContract.{label_of, inline_labels}
use Rattle.contract_extract.proofs.block.Block.inline_labels.Given as goal

abbrev pub invariant-loop-one : goal.invariant-loop-one
invariant-loop-one l = l.names ++ map (label_of l.self) (drop l.one-index l.within) ≡ inline_labels l.self l.segment
