use Rattle.std.proofs.Common.{length}
use Rattle.descriptions.proofs.SignatureLaws.{numbered}
use Rattle.descriptions.proofs.signatures.signature_numbers.Goals as goal

pub returns : goal.returns
returns c = numbered (λ v. v.items) c.args.signatures.now c.in_ok-found.found (length c.args.signatures.now) c.places_of.result c.in_ok-found.ensures (λ i. length c.args.signatures.now) c.places_of.ensures
