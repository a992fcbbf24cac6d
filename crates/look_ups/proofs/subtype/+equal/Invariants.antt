use Rattle.std.proofs.Common.{◌≡◌, take}
use Rattle.look_ups.proofs.subtype.+equal.Given as goal

abbrev pub invariant-are_equal-loop-k : goal.invariant-are_equal-loop-k
invariant-are_equal-loop-k l = take l.k l.a ≡ take l.k l.b
