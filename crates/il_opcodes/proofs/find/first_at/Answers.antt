use Rattle.std.proofs.Common.{ap, ◌∙◌, List, ℕ, get_or}
use Rattle.il_opcodes.proofs.OpcodeLaws.{first_at}
use Rattle.il_opcodes.proofs.find.first_at.Goals as goal

pub returns : goal.returns
returns c = ap (λ (l : List ℕ). get_or l c.args.slot 0) c.first_spellings.ensures.value ∙ first_at c.args.slot c.requires
