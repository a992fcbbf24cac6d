use Rattle.std.proofs.Common.{◌≡◌, ◌++◌, drop}
use Rattle.std.specs.Prelude.{map}
use Rattle.clause_expansion.specs.Expansion.{place_in}
use Rattle.clause_expansion.proofs.instrs.places_in.Given as goal

abbrev pub invariant-loop-target : goal.invariant-loop-target
invariant-loop-target l =
    l.out ++ map (place_in l.starts) (drop l.target-index l.targets) ≡ map (place_in l.starts) l.targets
