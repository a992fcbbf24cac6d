use Rattle.std.proofs.Common.{◌≡◌, ◌++◌, ◌-◌}
use Rattle.std.specs.Prelude.{map}
use Rattle.std.specs.List.{range_with_len}
use Rattle.set_types.specs.CodedTypes.{coded_of}
use Rattle.row_descriptions.specs.RowDescriptions.{field_row}
use Rattle.row_descriptions.proofs.fields.push_fields.Given as goal

-- what is left of the rows
abbrev pub invariant-loop-row : goal.invariant-loop-row
invariant-loop-row l = l.out ++ map (field_row l.rows (coded_of l.coded)) (range_with_len l.row (l.to - l.row)) ≡ l.initial.out ++ map (field_row l.rows (coded_of l.coded)) (range_with_len l.from (l.to - l.from))
