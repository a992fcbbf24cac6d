use Rattle.std.proofs.Common.{◌≡◌, ◌++◌, drop}
use Rattle.std.specs.Prelude.{map}
use Rattle.clause_types.specs.ClauseTypes.{ref_under}
use Rattle.clause_types.proofs.clause.push_refs_under.Given as goal

abbrev pub invariant-loop-ty : goal.invariant-loop-ty
invariant-loop-ty l = l.out ++ map (ref_under l.under) (drop l.ty-index l.types) ≡ l.initial.out ++ map (ref_under l.under) l.types
