use Rattle.std.proofs.Common.{◌≡◌}
use Rattle.std.specs.Prelude.{map}
use Rattle.std.specs.List.{range_with_len}
use Rattle.cil_semantics.specs.Unwind.{plan_at}
use Rattle.run_machine.proofs.machine.plans_of.Given as goal

abbrev pub invariant-loop-method : goal.invariant-loop-method
invariant-loop-method l = l.plans.items ≡ map (plan_at l.contracts l.program) (range_with_len 0 l.method)
