use Rattle.std.proofs.Common.{◌≡◌}
use Rattle.cil_model.specs.BodyCode.{cases}
use Rattle.il_code.proofs.operand.targets_of.Given as goal

abbrev pub invariant-loop-k : goal.invariant-loop-k
invariant-loop-k l = l.targets ≡ cases l.end l.bytes l.k
