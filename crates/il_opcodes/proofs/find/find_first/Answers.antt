use Rattle.std.proofs.Common.{sym, inl, inr, ⊎_elim}
use Rattle.il_opcodes.proofs.OpcodeLaws.{no_spelling}
use Rattle.il_opcodes.proofs.find.find_first.Goals as goal

pub returns : goal.returns
returns c = sym (no_spelling c.args.code c.if-code-lt256.false (⊎_elim (λ h. inr h.1) (λ h. inl h) c.else-code-ge65024.either))
