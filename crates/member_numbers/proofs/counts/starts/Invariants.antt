use Rattle.std.proofs.Common.{◌≡◌, ◌-◌, ◌≤◌}
use Rattle.std.specs.Prelude.{map}
use Rattle.std.specs.List.{range_with_len}
use Rattle.member_numbers.specs.Kept.{rows_before}
use Rattle.member_numbers.proofs.counts.starts.Given as goal

-- those of the assemblies before, and how many rows stand before the next
abbrev pub invariant-loop-a : goal.invariant-loop-a
invariant-loop-a l = (1 ≤ l.a) × (l.starts.items ≡ map (rows_before l.set l.table) (range_with_len 1 (l.a - 1))) × (l.total ≡ rows_before l.set l.table l.a)
