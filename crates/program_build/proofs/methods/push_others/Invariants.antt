use Rattle.std.proofs.Common.{◌≡◌, ◌++◌}
use Rattle.cil_base.specs.declared.tables.TheConstants.{METHOD_DEF}
use Rattle.program_build.specs.Orders.{of_others, method_at_row}
use Rattle.program_build.proofs.methods.push_others.Given as goal

-- those of the assemblies so far
abbrev pub invariant-loop-k : goal.invariant-loop-k
invariant-loop-k l = l.out ≡ l.initial.out ++ of_others l.tables METHOD_DEF (method_at_row l.tables) l.k
