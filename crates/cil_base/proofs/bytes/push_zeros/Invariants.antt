use Rattle.std.proofs.Common.{◌≡◌, ◌++◌}
use Rattle.cil_base.specs.Bytes.{zeros}
use Rattle.cil_base.proofs.bytes.push_zeros.Given as goal

abbrev pub invariant-loop-i : goal.invariant-loop-i
invariant-loop-i l = l.out.items ≡ l.initial.out.items ++ zeros l._i
