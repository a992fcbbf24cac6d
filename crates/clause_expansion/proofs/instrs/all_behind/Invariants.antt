use Rattle.std.proofs.Common.{◌≡◌, ◌++◌, drop}
use Rattle.std.specs.Prelude.{map}
use Rattle.clause_expansion.specs.Expansion.{behind}
use Rattle.clause_expansion.proofs.instrs.all_behind.Given as goal

abbrev pub invariant-loop-target : goal.invariant-loop-target
invariant-loop-target l =
    l.out ++ map (behind l.n) (drop l.target-index l.targets) ≡ map (behind l.n) l.targets
