use Rattle.std.proofs.Common.{◌≡◌, drop}
use Rattle.std.specs.Prelude.{nat_le, map, filter}
use Rattle.std.specs.List.{list_any, slice_range}
use Rattle.contract_parts.specs.declared.statement.Statement.{Statement}
use Rattle.contract_parts.specs.Parts.{lead_end}
use Rattle.contract_parts.specs.Closures.{loads, sets_field, is_put_into}
use Rattle.contract_parts.proofs.setup.Closures.is_put_into.Given as goal

abbrev pub invariant-loop-statement : goal.invariant-loop-statement
invariant-loop-statement l =
    list_any (sets_field (loads l.outer.local) (loads l.inner.local)) (map (λ (s : Statement). slice_range l.self.body.instrs s.from s.to) (filter (λ (s : Statement). nat_le s.to (lead_end l.self)) (drop l.statement-index l.parts)))
    ≡ is_put_into l.self l.inner l.outer
