use Rattle.std.proofs.Common.{◌≡◌, drop, filter}
use Rattle.run_values.specs.Kinds.{is_instance_field}
use Rattle.run_values.proofs.kinds.of_enumeration.Given as goal

abbrev pub invariant-loop-field : goal.invariant-loop-field
invariant-loop-field l = filter (is_instance_field l.program) (drop l.field-index l.fields) ≡ filter (is_instance_field l.program) l.fields
