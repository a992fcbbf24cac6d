use Rattle.std.proofs.Common.{◌≡◌, ◌+◌, length, drop}
use Rattle.cil_semantics.specs.Contracted.{locals_of}
use Rattle.run_machine.proofs.plan.count_locals.Given as goal

abbrev pub invariant-loop-piece : goal.invariant-loop-piece
invariant-loop-piece l = l.count + length (locals_of (drop l.piece-index l.pieces)) ≡ length (locals_of l.pieces)
