use Rattle.std.proofs.Common.{ap, ◌∙◌, List, ℕ, get_or}
use Rattle.il_opcodes.proofs.OpcodeLaws.{at}
use Rattle.il_opcodes.proofs.find.index_at.Goals as goal

pub returns : goal.returns
returns c = ap (λ (l : List ℕ). get_or l c.args.slot 0) c.indexes.ensures.value ∙ at c.args.slot c.requires
