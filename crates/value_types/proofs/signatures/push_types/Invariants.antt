use Rattle.std.proofs.Common.{◌≡◌, ◌++◌, drop}
use Rattle.std.specs.Prelude.{flat_map}
use Rattle.set_types.specs.SignatureRules.{values_within}
use Rattle.value_types.proofs.signatures.push_types.Given as goal

-- what is left of the list
abbrev pub invariant-loop-ty : goal.invariant-loop-ty
invariant-loop-ty l = l.initial.out ++ flat_map (values_within 1000) l.tys ≡ l.out ++ flat_map (values_within 1000) (drop l.ty-index l.tys)
