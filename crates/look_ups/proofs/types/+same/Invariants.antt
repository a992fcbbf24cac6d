use Rattle.std.proofs.Common.{◌≡◌, drop}
use Rattle.cil_semantics.specs.Types.{same_tys}
use Rattle.look_ups.proofs.types.+same.Given as goal

abbrev pub invariant-are_same-loop-k : goal.invariant-are_same-loop-k
invariant-are_same-loop-k l = same_tys (drop l.k l.a) (drop l.k l.b) ≡ same_tys l.a l.b
