use Rattle.std.proofs.Common.{◌≡◌, ◌-◌}
use Rattle.std.specs.Fn.{iterate}
use Rattle.contract_parts.specs.Closures.{well_used, closures}
use Rattle.contract_parts.proofs.lead_in.LeadIn.closures.Given as goal

abbrev pub invariant-loop-pass : goal.invariant-loop-pass
invariant-loop-pass l = iterate (well_used l.self) (l.passes - l.pass) l.made.items ≡ closures l.self
