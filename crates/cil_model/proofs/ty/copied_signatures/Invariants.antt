use Rattle.std.proofs.Common.{◌≡◌, ◌++◌, drop}
use Rattle.cil_model.proofs.ty.copied_signatures.Given as goal

abbrev pub invariant-loop-signature : goal.invariant-loop-signature
invariant-loop-signature l = l.copies ++ drop l.signature-index l.signatures ≡ l.signatures
