use Rattle.std.proofs.Common.{◌≡◌, ◌++◌, drop}
use Rattle.cil_semantics.specs.Dispatch.{methods_of}
use Rattle.look_ups.proofs.SourceLaws.{slots_implemented}
use Rattle.look_ups.proofs.implemented.add_implemented.Given as goal

abbrev pub invariant-loop-slot : goal.invariant-loop-slot
invariant-loop-slot l =
    l.found ++ slots_implemented l.program (l.ty, l.method) l.owner (drop l.slot-index (methods_of l.program l.owner))
    ≡ l.fn.found ++ slots_implemented l.program (l.ty, l.method) l.owner (methods_of l.program l.owner)
