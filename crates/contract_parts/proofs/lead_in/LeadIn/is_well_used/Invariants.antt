use Rattle.std.proofs.Common.{◌≡◌, drop}
use Rattle.std.specs.Prelude.{nat_le, map, filter}
use Rattle.std.specs.List.{list_all, slice_range}
use Rattle.contract_parts.specs.declared.statement.Statement.{Statement}
use Rattle.contract_parts.specs.Parts.{lead_end}
use Rattle.contract_parts.specs.Closures.{uses_well, is_well_used}
use Rattle.contract_parts.proofs.lead_in.LeadIn.is_well_used.Given as goal

abbrev pub invariant-loop-statement : goal.invariant-loop-statement
invariant-loop-statement l =
    list_all (uses_well l.made l.one) (map (λ (s : Statement). slice_range l.self.body.instrs s.from s.to) (filter (λ (s : Statement). nat_le s.to (lead_end l.self)) (drop l.statement-index l.parts)))
    ≡ is_well_used l.self l.made l.one
