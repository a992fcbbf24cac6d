use Rattle.std.proofs.Common.{◌≡◌, ◌++◌, drop}
use Rattle.std.specs.Prelude.{flat_map}
use Rattle.set_types.specs.SignatureRules.{values_within}
use Rattle.signature_rules.proofs.values.+values.Given as goal

-- what is left of the list
abbrev pub invariant-push_all-loop-ty : goal.invariant-push_all-loop-ty
invariant-push_all-loop-ty l = l.initial.out ++ flat_map (values_within l.depth) l.tys ≡ l.out ++ flat_map (values_within l.depth) (drop l.ty-index l.tys)
