use Rattle.std.proofs.Common.{◌≡◌, ◌++◌}
use Rattle.std.specs.Prelude.{map}
use Rattle.std.specs.List.{range_with_len}
use Rattle.coded_tables.specs.CodedAssemblies.{row_spec}
use Rattle.coded_tables.proofs.references.push_specs.Given as goal

abbrev pub invariant-loop-k : goal.invariant-loop-k
invariant-loop-k l = l.out.items ≡ l.initial.out.items ++ map (row_spec l.rows) (range_with_len 1 l.k)
