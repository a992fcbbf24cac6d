use Rattle.std.proofs.Common.{◌≡◌, drop}
use Rattle.std.specs.Prelude.{◌&&◌, nat_le, filter}
use Rattle.contract_parts.specs.declared.statement.Statement.{Statement}
use Rattle.contract_parts.specs.Parts.{is_led, last_end}
use Rattle.contract_parts.proofs.lead.end_before.Given as goal

abbrev pub invariant-loop-statement : goal.invariant-loop-statement
invariant-loop-statement l =
    last_end l.end (filter (λ (s : Statement). nat_le s.to l.first && is_led l.code s) (drop l.statement-index l.parts))
    ≡ last_end 0 (filter (λ (s : Statement). nat_le s.to l.first && is_led l.code s) l.parts)
