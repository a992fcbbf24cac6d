use Rattle.std.proofs.Common.{◌≡◌, ◌++◌, drop}
use Rattle.std.specs.Prelude.{nat_le, map, filter}
use Rattle.std.specs.List.{flat_map, slice_range}
use Rattle.contract_parts.specs.declared.statement.Statement.{Statement}
use Rattle.contract_parts.specs.Parts.{lead_end}
use Rattle.contract_parts.specs.Closures.{field_setting, lead_statements}
use Rattle.contract_parts.proofs.setup.Closures.copy_settings.Given as goal

abbrev pub invariant-loop-statement : goal.invariant-loop-statement
invariant-loop-statement l =
    l.out ++ flat_map (field_setting l.k) (map (λ (s : Statement). slice_range l.self.body.instrs s.from s.to) (filter (λ (s : Statement). nat_le s.to (lead_end l.self)) (drop l.statement-index l.parts)))
    ≡ l.initial.out ++ flat_map (field_setting l.k) (lead_statements l.self)
