use Rattle.std.proofs.Common.{◌≡◌, drop}
use Rattle.contract_parts.specs.Parts.{rest_behind}
use Rattle.contract_parts.proofs.segment.rest_behind.Given as goal

abbrev pub invariant-loop-at : goal.invariant-loop-at
invariant-loop-at l = rest_behind l.rest (drop l.at-index l.prefixes) ≡ rest_behind 0 l.prefixes
