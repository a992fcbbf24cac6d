use Rattle.std.proofs.Common.{◌≡◌, ◌+◌, drop}
use Rattle.il_body.specs.BodyEncoding.{weight, instr_limit}
use Rattle.il_body.proofs.encode.is_within_limit.Given as goal

abbrev pub invariant-loop-i : goal.invariant-loop-i
invariant-loop-i l = l.left + weight l.instrs ≡ instr_limit + weight (drop l.i-index l.instrs)
