use Rattle.descriptions.proofs.SignatureLaws.{tell_apart}
use Rattle.descriptions.proofs.signatures.numbers_tell_signatures_apart.Goals as goal

pub returns : goal.returns
returns c = tell_apart
