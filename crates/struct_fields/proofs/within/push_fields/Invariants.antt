use Rattle.std.proofs.Common.{◌≡◌, ◌++◌, ◌+◌, ◌-◌}
use Rattle.std.specs.List.{range_with_len, flat_map}
use Rattle.set_types.specs.CodedTypes.{coded_of}
use Rattle.struct_fields.specs.StructFields.{field_row_structs}
use Rattle.struct_fields.proofs.within.push_fields.Given as goal

-- what is left of the rows
abbrev pub invariant-loop-k : goal.invariant-loop-k
invariant-loop-k l =
    l.out ++ flat_map (field_row_structs l.structs l.rows (coded_of l.coded)) (range_with_len (l.k + 1) (l.to - l.k))
    ≡ l.initial.out ++ flat_map (field_row_structs l.structs l.rows (coded_of l.coded)) (range_with_len (l.from + 1) (l.to - l.from))
