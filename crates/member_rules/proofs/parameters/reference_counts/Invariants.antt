use Rattle.std.proofs.Common.{◌≡◌, ◌++◌, drop}
use Rattle.std.specs.Prelude.{map}
use Rattle.member_rules.specs.Parameters.{reference_generics}
use Rattle.member_rules.proofs.parameters.reference_counts.Given as goal

-- what is left of the list
abbrev pub invariant-loop-id : goal.invariant-loop-id
invariant-loop-id l = l.found.items ++ map (reference_generics l.set) (drop l.id-index l.references) ≡ map (reference_generics l.set) l.references
