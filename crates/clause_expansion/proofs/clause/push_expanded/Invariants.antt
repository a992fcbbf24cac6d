use Rattle.std.proofs.Common.{◌≡◌, ◌++◌, drop}
use Rattle.std.specs.Prelude.{map}
use Rattle.clause_expansion.specs.Expansion.{expanded}
use Rattle.clause_expansion.specs.Labels.{labelled_from, numbers_behind_all}
use Rattle.clause_expansion.proofs.clause.push_expanded.Given as goal

abbrev pub invariant-loop-clause : goal.invariant-loop-clause
invariant-loop-clause l =
    (l.out ++ labelled_from l.program l.method l.numbers (map (expanded l.site) (drop l.clause-index l.clauses))
    ≡ l.initial.out ++ labelled_from l.program l.method l.initial.numbers (map (expanded l.site) l.clauses))
    × (numbers_behind_all l.program l.numbers (map (expanded l.site) (drop l.clause-index l.clauses))
    ≡ numbers_behind_all l.program l.initial.numbers (map (expanded l.site) l.clauses))
