use Rattle.std.proofs.Common.{◌≡◌, ◌++◌}
use Rattle.cil_base.specs.declared.tables.TheConstants.{METHOD_DEF}
use Rattle.program_build.specs.Orders.{of_others, signature_at}
use Rattle.program_build.proofs.signatures.push_others.Given as goal

-- those of the assemblies so far
abbrev pub invariant-loop-k : goal.invariant-loop-k
invariant-loop-k l = l.out.items ≡ l.initial.out.items ++ of_others l.tables METHOD_DEF (signature_at l.tables) l.k
