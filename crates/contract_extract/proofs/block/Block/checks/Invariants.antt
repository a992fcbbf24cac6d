use Rattle.std.proofs.Common.{◌≡◌, ◌++◌, drop}
use Rattle.std.specs.List.{enumerate_from, filter_map}
use Rattle.contract_parts.specs.Flow.{placed}
use Rattle.contract_extract.specs.OwnContract.{checked}
use Rattle.contract_extract.proofs.block.Block.checks.Given as goal

abbrev pub invariant-loop-instr : goal.invariant-loop-instr
invariant-loop-instr l =
    (l.at ≡ l.instr-index)
    × (l.out.items ++ filter_map (checked l.self) (enumerate_from l.instr-index (drop l.instr-index l.instrs)) ≡ filter_map (checked l.self) (placed l.self))
