use Rattle.std.proofs.Common.{◌≡◌, ◌∷◌, false, length}
use Rattle.cil_semantics.specs.Unwind.{unwind}
use Rattle.run_unwind.proofs.unwinding.unwind.Given as goal

abbrev pub invariant-frames : goal.invariant-frames
invariant-frames l =
    unwind l.machine.program l.machine.contracts false (l.top ∷ l.below) l.world l.thrown
    ≡ unwind l.machine.program l.machine.contracts false (l.fn.top ∷ l.fn.below) l.fn.world l.exception

abbrev pub decreases-frames : goal.decreases-frames
decreases-frames l = length l.below
