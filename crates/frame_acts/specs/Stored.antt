-- What a store that may not be done leaves of a list of places (own).
use Rattle.std.specs.Prelude.{Bool, true, false, List, Option, Some, None}
use Rattle.cil_semantics.specs.declared.Cell.{Cell}

-- the places, if the store was done
abbrev pub cells_if : (done : Bool) → List Cell → Option (List Cell)
cells_if true cells = Some cells
cells_if false cells = None
