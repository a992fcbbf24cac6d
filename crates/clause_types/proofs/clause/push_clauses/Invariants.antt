use Rattle.std.proofs.Common.{◌≡◌, ◌++◌, drop}
use Rattle.clause_types.proofs.clause.push_clauses.Given as goal

abbrev pub invariant-loop-clause : goal.invariant-loop-clause
invariant-loop-clause l = l.out ++ drop l.clause-index l.clauses ≡ l.initial.out ++ l.clauses
