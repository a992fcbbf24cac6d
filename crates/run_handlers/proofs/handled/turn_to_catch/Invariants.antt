use Rattle.std.proofs.Common.{◌≡◌, ◌++◌, length, reverse}
use Rattle.cil_semantics.specs.Unwind.{innermost}
use Rattle.run_handlers.proofs.handled.turn_to_catch.Given as goal

abbrev pub invariant-loop-one : goal.invariant-loop-one
invariant-loop-one l = record {
  caught : innermost l.from ≡ innermost l.fn.from;
  moved : reverse l.to ++ l.from ≡ reverse l.fn.to ++ l.fn.from;
}

abbrev pub decreases-loop-one : goal.decreases-loop-one
decreases-loop-one l = length l.from
