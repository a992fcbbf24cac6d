use Rattle.std.proofs.Common.{◌≡◌, [], ◌++◌, drop, filter, map}
use Rattle.run_places.specs.Fields.{is_static_field}
use Rattle.cil_semantics.specs.Lookups.{field_of}
use Rattle.cil_semantics.specs.Places.{default_cell}
use Rattle.cil_semantics.specs.Types.{under}
use Rattle.run_places.proofs.statics.cells_of_fields.Given as goal

abbrev pub invariant-loop-field : goal.invariant-loop-field
invariant-loop-field l =
    l.cells ++ map (λ f. default_cell l.program (under l.args [] (field_of l.program f).ty)) (filter (is_static_field l.program) (drop l.field-index l.fields))
    ≡ map (λ f. default_cell l.program (under l.args [] (field_of l.program f).ty)) (filter (is_static_field l.program) l.fields)
