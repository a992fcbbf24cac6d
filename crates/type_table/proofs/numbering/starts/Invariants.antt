use Rattle.std.proofs.Common.{◌≡◌, ◌-◌, ◌≤◌}
use Rattle.std.specs.Prelude.{map}
use Rattle.std.specs.List.{range_with_len}
use Rattle.type_table.specs.Table.{types_before}
use Rattle.type_table.proofs.numbering.starts.Given as goal

-- those of the assemblies before, and how many types stand before the next
abbrev pub invariant-loop-a : goal.invariant-loop-a
invariant-loop-a l = (1 ≤ l.a) × (l.starts.items ≡ map (types_before l.set) (range_with_len 1 (l.a - 1))) × (l.total ≡ types_before l.set l.a)
