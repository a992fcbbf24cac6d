use Rattle.std.proofs.Common.{◌≡◌, ◌++◌, drop}
use Rattle.contract_parts.specs.Parts.{neighbours}
use Rattle.contract_parts.proofs.lead.neighbours.Given as goal

abbrev pub invariant-loop-to : goal.invariant-loop-to
invariant-loop-to l = l.out.items ++ neighbours l.from (drop l.to-index l.rest) ≡ neighbours l.first l.rest
