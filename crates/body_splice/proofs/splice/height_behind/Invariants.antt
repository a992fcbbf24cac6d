use Rattle.std.proofs.Common.{◌≡◌, ◌*◌, ◌≤◌, drop}
use Rattle.body_splice.specs.Splice.{height}
use Rattle.body_splice.proofs.splice.height_behind.Given as goal

abbrev pub invariant-loop-i : goal.invariant-loop-i
invariant-loop-i l = (l.h ≤ 2 * l.i-index) × (height l.h (drop l.i-index l.instrs) ≡ height 0 l.instrs)
