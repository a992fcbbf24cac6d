use Rattle.std.proofs.Common.{◌≡◌, ◌++◌, drop}
use Rattle.clause_types.proofs.clause.push_refs.Given as goal

abbrev pub invariant-loop-ty : goal.invariant-loop-ty
invariant-loop-ty l = l.out ++ drop l.ty-index l.types ≡ l.initial.out ++ l.types
