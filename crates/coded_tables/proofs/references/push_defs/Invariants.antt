use Rattle.std.proofs.Common.{◌≡◌, ◌++◌}
use Rattle.std.specs.Prelude.{map}
use Rattle.std.specs.List.{range_with_len}
use Rattle.coded_tables.specs.CodedAssemblies.{own_ty}
use Rattle.coded_tables.proofs.references.push_defs.Given as goal

abbrev pub invariant-loop-k : goal.invariant-loop-k
invariant-loop-k l = l.out ≡ l.initial.out ++ map (own_ty l.table l.a) (range_with_len 1 l.k)
