use Rattle.std.proofs.Common.{◌≡◌, [], ◌++◌, drop, filter, map}
use Rattle.cil_semantics.specs.Lookups.{field_of}
use Rattle.cil_semantics.specs.Types.{under}
use Rattle.run_values.specs.Kinds.{is_instance_field}
use Rattle.run_values.proofs.fields.types_of_instance_fields.Given as goal

abbrev pub invariant-loop-field : goal.invariant-loop-field
invariant-loop-field l =
    l.tys ++ map (λ f. under l.args [] (field_of l.program f).ty) (filter (is_instance_field l.program) (drop l.field-index l.fields))
    ≡ map (λ f. under l.args [] (field_of l.program f).ty) (filter (is_instance_field l.program) l.fields)
