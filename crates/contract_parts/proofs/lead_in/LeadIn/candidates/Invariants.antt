use Rattle.std.proofs.Common.{◌≡◌, ◌++◌, drop}
use Rattle.std.specs.List.{enumerate_from, filter_map}
use Rattle.contract_parts.specs.Closures.{candidate, candidates}
use Rattle.contract_parts.proofs.lead_in.LeadIn.candidates.Given as goal

abbrev pub invariant-loop-instr : goal.invariant-loop-instr
invariant-loop-instr l =
    (l.place ≡ l.instr-index)
    × (l.made.items ++ filter_map (candidate l.self) (enumerate_from l.instr-index (drop l.instr-index l.instrs)) ≡ candidates l.self)
