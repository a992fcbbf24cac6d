use Rattle.block_laws.proofs.BlockLaws.{block_lies_whole}
use Rattle.block_laws.proofs.blocks_lie_whole.Goals as goal

pub returns-clause-whole : goal.returns-clause-whole
returns-clause-whole c = block_lies_whole
