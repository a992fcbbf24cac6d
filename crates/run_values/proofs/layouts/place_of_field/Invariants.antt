use Rattle.std.proofs.Common.{◌≡◌, ◌+◌, length}
use Rattle.std.specs.Prelude.{option_map}
use Rattle.cil_semantics.specs.Places.{field_place, layouts, place_of}
use Rattle.run_values.proofs.layouts.place_of_field.Given as goal

abbrev pub invariant-loop-link : goal.invariant-loop-link
invariant-loop-link l = option_map (λ i. l.before + i) (place_of l.field (layouts l.program l.links)) ≡ field_place l.fn.program l.fn.ty l.fn.field

abbrev pub decreases-loop-link : goal.decreases-loop-link
decreases-loop-link l = length l.links
