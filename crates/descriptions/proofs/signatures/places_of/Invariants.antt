use Rattle.std.proofs.Common.{◌≡◌, ◌++◌, drop}
use Rattle.std.specs.Prelude.{map}
use Rattle.descriptions.specs.Signatures.{place_in}
use Rattle.descriptions.proofs.signatures.places_of.Given as goal

-- the places of what is left
abbrev pub invariant-loop-signature : goal.invariant-loop-signature
invariant-loop-signature l = l.places.items ++ map (place_in l.found l.count) (drop l.signature-index l.signatures) ≡ map (place_in l.found l.count) l.signatures
