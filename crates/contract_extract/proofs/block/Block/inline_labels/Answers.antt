use Rattle.contract_extract.proofs.CheckLaws.{rise_of}
use Rattle.contract_extract.proofs.block.Block.inline_labels.Goals as goal

pub calls_within-within-requires : goal.calls_within-within-requires
calls_within-within-requires c = rise_of c.args.self.now c.args.calls.now c.requires
