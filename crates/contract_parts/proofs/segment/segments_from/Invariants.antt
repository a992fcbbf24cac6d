use Rattle.std.proofs.Common.{◌≡◌, ◌++◌, drop}
use Rattle.contract_parts.specs.Parts.{segments_from}
use Rattle.contract_parts.proofs.segment.segments_from.Given as goal

abbrev pub invariant-loop-at : goal.invariant-loop-at
invariant-loop-at l = l.segments.items ++ segments_from l.begin (drop l.at-index l.prefixes) ≡ segments_from l.from l.prefixes
