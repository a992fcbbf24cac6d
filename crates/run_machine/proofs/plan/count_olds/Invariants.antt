use Rattle.std.proofs.Common.{◌≡◌, ◌+◌, length, drop}
use Rattle.cil_semantics.specs.Contracted.{olds_of}
use Rattle.run_machine.proofs.plan.count_olds.Given as goal

abbrev pub invariant-loop-piece : goal.invariant-loop-piece
invariant-loop-piece l = l.count + length (olds_of (drop l.piece-index l.pieces)) ≡ length (olds_of l.pieces)
