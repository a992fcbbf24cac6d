use Rattle.std.proofs.Common.{◌≡◌, drop}
use Rattle.contract_parts.specs.Parts.{no_nops}
use Rattle.contract_parts.proofs.lines.past_nops.Given as goal

abbrev pub invariant-loop-at : goal.invariant-loop-at
invariant-loop-at l = no_nops (drop l.at l.instrs) ≡ no_nops l.instrs
