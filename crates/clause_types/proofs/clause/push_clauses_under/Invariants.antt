use Rattle.std.proofs.Common.{◌≡◌, ◌++◌, drop}
use Rattle.std.specs.Prelude.{map}
use Rattle.clause_types.specs.ClauseTypes.{clause_under}
use Rattle.clause_types.proofs.clause.push_clauses_under.Given as goal

abbrev pub invariant-loop-clause : goal.invariant-loop-clause
invariant-loop-clause l = l.out ++ map (clause_under l.under) (drop l.clause-index l.clauses) ≡ l.initial.out ++ map (clause_under l.under) l.clauses
