use Rattle.std.proofs.Common.{◌≡◌, ◌+◌, ◌++◌, drop}
use Rattle.std.specs.List.{enumerate_from, filter_map}
use Rattle.contract_parts.specs.Parts.{segment_code}
use Rattle.contract_extract.specs.Clauses.{old_at}
use Rattle.contract_extract.proofs.block.Block.olds.Given as goal

abbrev pub invariant-loop-instr : goal.invariant-loop-instr
invariant-loop-instr l =
    (l.at ≡ l.segment.from + l.instr-index)
    × (l.out ++ filter_map (old_at l.self l.setup l.segment) (enumerate_from (l.segment.from + l.instr-index) (drop l.instr-index l.instrs))
    ≡ filter_map (old_at l.self l.setup l.segment) (segment_code l.self l.segment))
