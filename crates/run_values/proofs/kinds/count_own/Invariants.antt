use Rattle.std.proofs.Common.{◌≡◌, ◌+◌, ◌≤◌, drop, length, filter}
use Rattle.run_values.specs.Kinds.{is_instance_field}
use Rattle.run_values.proofs.kinds.count_own.Given as goal

abbrev pub invariant-loop-field : goal.invariant-loop-field
invariant-loop-field l =
    (l.count ≤ l.field-index)
    × (l.count + length (filter (is_instance_field l.program) (drop l.field-index l.fields)) ≡ length (filter (is_instance_field l.program) l.fields))
