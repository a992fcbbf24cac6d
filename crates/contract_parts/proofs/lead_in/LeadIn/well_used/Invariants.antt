use Rattle.std.proofs.Common.{◌≡◌, ◌++◌, drop}
use Rattle.std.specs.Prelude.{filter}
use Rattle.contract_parts.specs.Closures.{is_well_used, well_used}
use Rattle.contract_parts.proofs.lead_in.LeadIn.well_used.Given as goal

abbrev pub invariant-loop-one : goal.invariant-loop-one
invariant-loop-one l = l.used.items ++ filter (is_well_used l.self l.made) (drop l.one-index l.made) ≡ well_used l.self l.made
