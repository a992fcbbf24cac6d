use Rattle.std.proofs.Common.{◌≡◌, ◌++◌}
use Rattle.cil_base.specs.declared.tables.TheConstants.{TYPE_DEF}
use Rattle.descriptions.specs.Descriptions.{type_row}
use Rattle.program_build.specs.Orders.{of_others}
use Rattle.program_build.proofs.types.push_others.Given as goal

-- those of the assemblies so far
abbrev pub invariant-loop-k : goal.invariant-loop-k
invariant-loop-k l = l.out ≡ l.initial.out ++ of_others l.tables TYPE_DEF (type_row l.tables) l.k
