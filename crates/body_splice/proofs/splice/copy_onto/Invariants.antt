use Rattle.std.proofs.Common.{◌≡◌, ◌++◌, drop}
use Rattle.body_splice.proofs.splice.copy_onto.Given as goal

abbrev pub invariant-loop-i : goal.invariant-loop-i
invariant-loop-i l = l.list ++ drop l.i-index l.instrs ≡ l.initial.list ++ l.instrs
