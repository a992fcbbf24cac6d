use Rattle.std.proofs.Common.{◌≡◌, ◌+◌, ◌*◌, ◌^◌, ◌≤◌, ◌++◌, drop}
use Rattle.il_body.specs.BodyEncoding.{weight, starts}
use Rattle.il_body.proofs.encode.offsets_of.Given as goal

abbrev pub invariant-loop-i : goal.invariant-loop-i
invariant-loop-i l = (l.at + 24 * weight (drop l.i-index l.instrs) ≤ 24 * 2 ^ 22) × (weight (drop l.i-index l.instrs) ≤ 2 ^ 22) × (l.offsets ++ starts l.at (drop l.i-index l.instrs) ≡ starts 0 l.instrs)
