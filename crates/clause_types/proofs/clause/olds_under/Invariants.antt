use Rattle.std.proofs.Common.{◌≡◌, ◌++◌, drop}
use Rattle.std.specs.Prelude.{map}
use Rattle.clause_types.specs.ClauseTypes.{old_under}
use Rattle.clause_types.proofs.clause.olds_under.Given as goal

abbrev pub invariant-loop-old : goal.invariant-loop-old
invariant-loop-old l = l.out ++ map (old_under l.under) (drop l.old-index l.olds) ≡ map (old_under l.under) l.olds
