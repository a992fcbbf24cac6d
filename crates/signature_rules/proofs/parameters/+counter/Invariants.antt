use Rattle.std.proofs.Common.{◌≡◌, drop}
use Rattle.set_types.specs.SignatureRules.{any, miscounts_within}
use Rattle.signature_rules.specs.ParameterCounts.{count_of}
use Rattle.signature_rules.proofs.parameters.+counter.Given as goal

-- what is left of the list
abbrev pub invariant-any_miscounts-loop-ty : goal.invariant-any_miscounts-loop-ty
invariant-any_miscounts-loop-ty l = any (miscounts_within (count_of l.parameters) l.depth) l.tys ≡ any (miscounts_within (count_of l.parameters) l.depth) (drop l.ty-index l.tys)
