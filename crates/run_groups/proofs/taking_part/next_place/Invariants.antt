use Rattle.std.proofs.Common.{◌≡◌, List, drop}
use Rattle.cil_semantics.specs.Unwind.{first_from, takes_part}
use Rattle.cil_semantics.specs.declared.Frame.{Frame}
use Rattle.run_groups.proofs.taking_part.next_place.Given as goal

abbrev pub invariant-loop-k : goal.invariant-loop-k
invariant-loop-k l =
    (fs : List Frame) → first_from (takes_part l.program l.frame fs l.world) 0 l.k (drop l.k l.pieces) ≡ first_from (takes_part l.program l.frame fs l.world) l.skip 0 l.pieces
