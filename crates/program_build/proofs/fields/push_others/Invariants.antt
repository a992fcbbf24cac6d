use Rattle.std.proofs.Common.{◌≡◌, ◌++◌}
use Rattle.cil_base.specs.declared.tables.TheConstants.{FIELD}
use Rattle.program_build.specs.Orders.{of_others, field_at_row}
use Rattle.program_build.proofs.fields.push_others.Given as goal

-- those of the assemblies so far
abbrev pub invariant-loop-k : goal.invariant-loop-k
invariant-loop-k l = l.out ≡ l.initial.out ++ of_others l.tables FIELD (field_at_row l.tables) l.k
