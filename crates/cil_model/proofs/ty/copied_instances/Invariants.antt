use Rattle.std.proofs.Common.{◌≡◌, ◌++◌, drop}
use Rattle.cil_model.proofs.ty.copied_instances.Given as goal

abbrev pub invariant-loop-instance : goal.invariant-loop-instance
invariant-loop-instance l = l.copies ++ drop l.instance-index l.instances ≡ l.instances
