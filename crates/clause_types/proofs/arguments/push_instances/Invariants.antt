use Rattle.std.proofs.Common.{◌≡◌, ◌++◌, drop}
use Rattle.clause_types.proofs.arguments.push_instances.Given as goal

abbrev pub invariant-loop-instance : goal.invariant-loop-instance
invariant-loop-instance l = l.out ++ drop l.instance-index l.more ≡ l.initial.out ++ l.more
