use Rattle.std.proofs.Common.{◌≡◌, ◌+◌, ◌*◌, drop}
use Rattle.set_types.specs.CodedTypes.{coded_of}
use Rattle.set_types.specs.SignatureRules.{any, strays_within}
use Rattle.signature_rules.proofs.parameters.+strayer.Given as goal

abbrev pub decreases-is_stray : goal.decreases-is_stray
decreases-is_stray l = 4 * l.depth

abbrev pub decreases-any_strays : goal.decreases-any_strays
decreases-any_strays l = 4 * l.depth + 1

abbrev pub decreases-spec_strays : goal.decreases-spec_strays
decreases-spec_strays l = 4 * l.depth + 1

abbrev pub decreases-method_strays : goal.decreases-method_strays
decreases-method_strays l = 4 * l.depth + 2

abbrev pub decreases-layer_strays : goal.decreases-layer_strays
decreases-layer_strays l = 4 * l.depth + 3

-- what is left of the list
abbrev pub invariant-any_strays-loop-ty : goal.invariant-any_strays-loop-ty
invariant-any_strays-loop-ty l = any (strays_within (coded_of l.coded) l.n l.m l.depth) l.tys ≡ any (strays_within (coded_of l.coded) l.n l.m l.depth) (drop l.ty-index l.tys)
