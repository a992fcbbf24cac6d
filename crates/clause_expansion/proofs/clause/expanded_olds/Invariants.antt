use Rattle.std.proofs.Common.{◌≡◌, ◌++◌, drop}
use Rattle.std.specs.Prelude.{map}
use Rattle.clause_expansion.specs.Expansion.{expanded_old}
use Rattle.clause_expansion.proofs.clause.expanded_olds.Given as goal

abbrev pub invariant-loop-old : goal.invariant-loop-old
invariant-loop-old l =
    l.out ++ map (expanded_old l.site l.starts) (drop l.old-index l.olds) ≡ map (expanded_old l.site l.starts) l.olds
