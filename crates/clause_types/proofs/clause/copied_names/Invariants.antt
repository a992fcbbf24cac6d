use Rattle.std.proofs.Common.{◌≡◌, ◌++◌, drop}
use Rattle.clause_types.proofs.clause.copied_names.Given as goal

abbrev pub invariant-loop-name : goal.invariant-loop-name
invariant-loop-name l = l.out ++ drop l.name-index l.names ≡ l.names
