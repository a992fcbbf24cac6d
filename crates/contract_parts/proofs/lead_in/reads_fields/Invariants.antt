use Rattle.std.proofs.Common.{◌≡◌, drop}
use Rattle.contract_parts.specs.Closures.{reads_fields}
use Rattle.contract_parts.proofs.lead_in.reads_fields.Given as goal

abbrev pub invariant-loop-at : goal.invariant-loop-at
invariant-loop-at l = reads_fields l.k (drop l.at l.instrs) ≡ reads_fields l.k l.instrs
