use Rattle.std.proofs.Common.{◌≡◌, ◌+◌, ◌*◌, ◌++◌, drop}
use Rattle.std.specs.Prelude.{option_map}
use Rattle.cil_semantics.specs.Places.{each_stored, stored_within}
use Rattle.run_values.proofs.structs.+structs.Given as goal

abbrev pub decreases-value_stored : goal.decreases-value_stored
decreases-value_stored l = 4 * l.depth

abbrev pub decreases-parts_stored : goal.decreases-parts_stored
decreases-parts_stored l = 4 * l.depth + 1

abbrev pub decreases-struct_stored : goal.decreases-struct_stored
decreases-struct_stored l = 4 * l.depth + 2

abbrev pub decreases-kind_stored : goal.decreases-kind_stored
decreases-kind_stored l = 4 * l.depth + 3

abbrev pub invariant-parts_stored-loop-k : goal.invariant-parts_stored-loop-k
invariant-parts_stored-loop-k l =
    option_map (λ ws. l.left ++ ws) (each_stored (stored_within l.depth l.program) (drop l.k l.tys) (drop l.k l.parts))
    ≡ each_stored (stored_within l.depth l.program) l.tys l.parts
